use Rattle.std.proofs.Common.{◌≡◌, ◌+◌}
use Rattle.library_tests.proofs.table_caller.pass.Given as goal

-- as many slots have passed as the loop has counted
abbrev pub invariant-loop-passed : goal.invariant-loop-passed
invariant-loop-passed g l = l.exec.scene.time ≡ l.fn.exec.scene.time + l._passed
