-- Places in a picture, in pixels from the left and from the top.
use Rattle.std.specs.Prelude.{ℕ, ◌+◌, ◌-◌, ◌*◌, min}
use Rattle.view_picture.specs.declared.layout.TheConstants.{FAR}
use Rattle.view_picture.specs.declared.layout.Times.{Times}

-- so many steps further, but no place is further than FAR pixels
abbrev pub after_steps : ℕ → ℕ → ℕ → ℕ
after_steps from count step = min (from + count * step) FAR

-- the left edge of the slot of a time
abbrev pub x_of : Times → ℕ → ℕ
x_of times time = after_steps times.left (time - times.first) times.slot
