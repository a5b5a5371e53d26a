-- A call of an entry is a step of its definition: its contract says what `gives` says. Assumes nothing.
use mathlib.Core.Path.{◌≡◌, ap}
use mathlib.Core.Bool.{true}
use mathlib.Core.List.{List}
use Prim.Native.Nat.{ℕ}
use Rattle.protector_state.specs.declared.Reply.{Reply}
use Rattle.call_refusals.specs.Buffers.{Buffers}
use Rattle.protector.specs.Calls.{build_of}
use Rattle.history.specs.Call.{Call, Result, effect, replied, kept_in, enabled_by, gives}
use Rattle.history.specs.Made.{with_state, with_tables, Made, visibility, done, failed, protection, default, register, unregister, lock, unlock, enable, tell_enabled, tell_default, is_overlay, query, fault, lower, access, Built, build}

pub is : {c : Call} {u v : Buffers} {r : Result c} → Made c u v r → effect v r ≡ gives c u
is (visibility κs a r e k) = ap replied k
is (done κs a r e k) = ap replied k
is (failed κs a r e k) = ap replied k
is (protection κs a r e k) = ap replied k
is (default κs a r e k) = ap replied k
is (register κs a r e k) = ap replied k
is (unregister κs a r e k) = ap replied k
is (lock m p κs a r e k) = ap (kept_in (with_tables true m p a)) k
is (unlock m p κs a r e k) = ap (kept_in (with_tables true m p a)) k
is (enable m p t κs a r e k) = ap (enabled_by (with_state true m p t a)) k
is (tell_enabled m p t κs a r e k) = ap (effect _) k
is (tell_default m p t κs a r e k) = ap (effect _) k
is (is_overlay m p κs a r e k) = ap (effect _) k
is (query m q p t κs a r e k) = ap (effect _) k
is (fault p t κs a r e k) = ap (effect _) k
is (lower p t κs a r e k) = ap (effect _) k
is (access p t κs a r e k) = ap (effect _) k

pub build_is : {ram : List ℕ} {isolation tracked release : ℕ} {u v : Buffers} {r : Reply} → Built ram isolation tracked release u v r → record { buffers = v; reply = r } ≡ build_of u ram isolation tracked release
build_is (build κs a r e k) = k
