use Rattle.service_laws.proofs.SoftWork.{soft_work_is_held_back_exactly}
use Rattle.service_laws.proofs.soft_work.soft_work_is_held_back_exactly.Goals as goal

pub returns : goal.returns
returns c = soft_work_is_held_back_exactly
