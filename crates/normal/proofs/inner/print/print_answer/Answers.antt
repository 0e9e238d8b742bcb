-- The lines are printed where the answer accepts, and the refusal where it refuses.
use mathlib.Core.Path.{refl}
use Rattle.normal.proofs.Printed.{accepted_counted, refused_counted}
use Rattle.normal.proofs.inner.print.print_answer.Goals as goal

pub returns-in-Ok : goal.returns-in-Ok
returns-in-Ok c = accepted_counted _ _ c.in-Ok.ensures _ refl c.print_plan.ensures.bytes

pub returns-in-Err : goal.returns-in-Err
returns-in-Err c = refused_counted _ _ c.in-Err.ensures _ _ _ _ refl c.print_refused.ensures.bytes
