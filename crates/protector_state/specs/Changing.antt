-- A protection change, a default change or an overlay call under way (01, "The request under way"), in words 0 to 13 of the state block. Its stages have
-- numbers that no visibility change has; nothing under way and halted have the same.
use Rattle.std.specs.Prelude.{Bool, cond, ◌&&◌, List, [], ◌∷◌, ◌++◌, ℕ, min, eqb, leb, ltb, get_or, drop}
use Rattle.abi.specs.Limits as limit
use Rattle.abi.specs.Phases as phase
use Rattle.abi.specs.Places as place
use Rattle.abi.specs.Stages as stage
use Rattle.permissions.specs.Flags.{vtl_of, vtl_number}
use Rattle.change_steps.specs.declared.Stage.{Stage}
use Rattle.change_steps.specs.declared.Stage.TheVariants.{Idle, Halted, ProtectPages, ProtectRam, ProtectNew, ProtectOld, Wait, Flush, TlbWait}
use Rattle.change_steps.specs.declared.Change.{Change}

abbrev pub stage_number : Stage → ℕ
stage_number Idle = phase.idle
stage_number Halted = phase.halted
stage_number ProtectPages = stage.protect_pages
stage_number ProtectRam = stage.protect_ram
stage_number ProtectNew = stage.protect_new
stage_number ProtectOld = stage.protect_old
stage_number Wait = stage.wait
stage_number Flush = stage.flush
stage_number TlbWait = stage.tlb_wait

-- a number that names none of them is read as halted; 0 is read by `is_changing` first
unfoldable pub stage_of : ℕ → Stage
stage_of n =
    cond (eqb n stage.protect_pages) ProtectPages
    (cond (eqb n stage.protect_ram) ProtectRam
    (cond (eqb n stage.protect_new) ProtectNew
    (cond (eqb n stage.protect_old) ProtectOld
    (cond (eqb n stage.wait) Wait
    (cond (eqb n stage.flush) Flush
    (cond (eqb n stage.tlb_wait) TlbWait
    Halted))))))

abbrev pub stage_in : List ℕ → Stage
stage_in state = stage_of (get_or state place.phase 0)

-- whether such a change is under way
abbrev pub is_changing : List ℕ → Bool
is_changing state = leb stage.protect_pages (get_or state place.phase 0) && ltb (get_or state place.phase 0) stage.end

abbrev pub change_in : List ℕ → Change
change_in state =
    record {
      vtl = vtl_of (get_or state place.vtl 0);
      flush = vtl_of (get_or state place.flush 0);
      n = min (get_or state place.used 0) limit.listed_pages;
      at = get_or state place.at 0;
      flags = get_or state place.flags 0;
      previous = get_or state place.previous 0;
      source = get_or state place.source 0;
      count = get_or state place.count 0;
    }

abbrev pub change_words : Stage → Change → List ℕ
change_words g change =
    stage_number g ∷ 0 ∷ vtl_number change.vtl ∷ change.n ∷ change.at ∷ 0 ∷ 0 ∷ 0 ∷ 0 ∷ change.count ∷ vtl_number change.flush ∷ change.flags ∷ change.previous ∷ change.source ∷ []

abbrev pub with_change : Stage → Change → List ℕ → List ℕ
with_change g change state = change_words g change ++ drop place.after_change state
