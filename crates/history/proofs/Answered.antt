-- Each call of a list gave what its definition gives of what it was lent; one that was lent something of another length, or a build that was refused, left it as it
-- was; and they compose. Assumes nothing.
use mathlib.Core.Path.{◌≡◌, refl, ap, ◌∙◌}
use Rattle.call_refusals.specs.Buffers.{Buffers}
use Rattle.history.specs.Observed.{Observed}
use Rattle.history.specs.Call.{Result, Effect, gives}
use Rattle.history.specs.History.{History, none, call, call_with_other_lengths, refused_build}
use Rattle.history.specs.Answered.{Answered, leaves}
use Rattle.history.proofs.Is.{is, build_is}
use Rattle.history.proofs.Refused.{other_lengths_keeps, build_keeps}

pub answered : {w : Buffers} {a : Observed} {v : Buffers} {o : Observed} (h : History w a v o) → Answered h
unfolding Answered
answered none = tt
answered (call h c r m) = (answered h, is m)
answered (call_with_other_lengths {left = u} {lent = x} h c r m s) = (answered h, is m, ap (λ (X : Effect (Result c)). X.buffers) (is m) ∙ other_lengths_keeps c u x s)
answered (refused_build {left = u} {lent = x} {after = y} h ram i t l r m f) = (answered h, build_is m, build_keeps x y ram i t l r (build_is m) f)

pub composed : {w : Buffers} {a : Observed} {v : Buffers} {o : Observed} (h : History w a v o) → v ≡ leaves h
unfolding leaves
composed none = refl
composed (call h c r m) = ap (λ (X : Effect (Result c)). X.buffers) (is m) ∙ ap (λ (u : Buffers). (gives c u).buffers) (composed h)
composed (call_with_other_lengths h c r m s) = composed h
composed (refused_build h ram i t l r m f) = composed h
