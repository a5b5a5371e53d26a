-- The state block of the protector (01, "The request under way", "Defaults", "RAM layout"): 128 words. A visibility change under way is in words 0 to
-- 9, another change in words 0 to 13, the settings are in words 16 to 21, the number of RAM entries in word 31, the entries from word 32 on. A build
-- leaves the others 0.
use Rattle.permissions.specs.declared.HvMapGpaFlags.{HvMapGpaFlags}
use Rattle.std.specs.Prelude.{cond, List, [], ◌∷◌, ◌++◌, ℕ, ◌-◌, ◌*◌, min, eqb, length, get_or, drop, take, replicate, Option, Some, None}
pub use Rattle.abi.specs.Lengths.{state_len}
use Rattle.abi.specs.Flags as bits
use Rattle.abi.specs.Limits as limit
use Rattle.abi.specs.Phases as phase
use Rattle.abi.specs.Places as place
use Rattle.abi.specs.Lengths.{ram_entry_words, ram_len}
use Rattle.laws.specs.Bools.{digit}
use Rattle.layout.specs.declared.MemoryRangeWithNode.{MemoryRangeWithNode}
use Rattle.layout.specs.Layout.{entries_of}
use Rattle.permissions.specs.declared.GuestVtl.{GuestVtl}
use Rattle.permissions.specs.declared.GuestVtl.TheVariants.{Vtl0, Vtl1}
use Rattle.permissions.specs.declared.DefaultVtlPermissions.{DefaultVtlPermissions}
use Rattle.permissions.specs.Flags.{vtl_of, vtl_number, isolation_of, fit_flags, flags_of, bits_of, bool_of}
use Rattle.visibility_steps.specs.declared.Phase.{Phase}
use Rattle.visibility_steps.specs.declared.Phase.TheVariants.{Idle, Halted, Wait, FlushAll, ProtectNone0, ProtectNone1, Invalidate, Release, Modify, Accept, Zero, ProtectDefault0, ProtectDefault1}
use Rattle.visibility_steps.specs.declared.Request.{Request}
use Rattle.visibility_steps.specs.declared.Settings.{Settings}

-- ---- a visibility change under way

abbrev pub phase_number : Phase → ℕ
phase_number Idle = phase.idle
phase_number Halted = phase.halted
phase_number Wait = phase.wait
phase_number FlushAll = phase.flush_all
phase_number ProtectNone0 = phase.protect_none0
phase_number ProtectNone1 = phase.protect_none1
phase_number Invalidate = phase.invalidate
phase_number Release = phase.release
phase_number Modify = phase.modify
phase_number Accept = phase.accept
phase_number Zero = phase.zero
phase_number ProtectDefault0 = phase.protect_default0
phase_number ProtectDefault1 = phase.protect_default1

-- a number that names no phase counts as halted
unfoldable pub first_phases : ℕ → Phase
first_phases n =
    cond (eqb n phase.idle) Idle
    (cond (eqb n phase.wait) Wait
    (cond (eqb n phase.flush_all) FlushAll
    (cond (eqb n phase.protect_none0) ProtectNone0
    (cond (eqb n phase.protect_none1) ProtectNone1
    (cond (eqb n phase.invalidate) Invalidate
    Halted)))))

unfoldable pub phase_of : ℕ → Phase
phase_of n =
    cond (eqb n phase.release) Release
    (cond (eqb n phase.modify) Modify
    (cond (eqb n phase.accept) Accept
    (cond (eqb n phase.zero) Zero
    (cond (eqb n phase.protect_default0) ProtectDefault0
    (cond (eqb n phase.protect_default1) ProtectDefault1
    (first_phases n))))))

abbrev pub phase_in : List ℕ → Phase
phase_in state = phase_of (get_or state place.phase 0)

abbrev pub request_of : List ℕ → Request
request_of state =
    record {
      share = bool_of (get_or state place.share 0);
      vtl = vtl_of (get_or state place.vtl 0);
      n = min (get_or state place.used 0) limit.listed_pages;
      at = get_or state place.at 0;
      stopped = bool_of (get_or state place.stopped 0);
      failed = bool_of (get_or state place.failed 0);
      index = get_or state place.index 0;
      code = get_or state place.code 0;
      count = get_or state place.count 0;
    }

abbrev pub request_words : Phase → Request → List ℕ
request_words p request =
    phase_number p ∷ digit request.share ∷ vtl_number request.vtl ∷ request.n ∷ request.at ∷ digit request.stopped ∷ digit request.failed ∷ request.index ∷ request.code ∷ request.count ∷ []

abbrev pub with_request : Phase → Request → List ℕ → List ℕ
with_request p request state = request_words p request ++ drop place.after_request state

-- ---- the settings: isolation, tracked, release flag, protections enabled, default of VTL0, default of VTL1 (16 where none is given)

abbrev pub option_of : ℕ → Option HvMapGpaFlags
option_of n = cond (fit_flags n) (Some (flags_of n)) None

abbrev pub option_word : Option HvMapGpaFlags → ℕ
option_word (Some f) = bits_of f
option_word None = bits.no_flags

abbrev pub defaults_of : List ℕ → DefaultVtlPermissions
defaults_of state = record { vtl0 = flags_of (get_or state place.default0 0); vtl1 = option_of (get_or state place.default1 0) }

-- the word of a VTL's default
abbrev pub default_word : DefaultVtlPermissions → GuestVtl → ℕ
default_word d Vtl0 = bits_of d.vtl0
default_word d Vtl1 = option_word d.vtl1

abbrev pub settings_of : List ℕ → Settings
settings_of state =
    record {
      isolation = isolation_of (get_or state place.isolation 0);
      tracked = bool_of (get_or state place.tracked 0);
      release = bool_of (get_or state place.release 0);
      enabled = bool_of (get_or state place.enabled 0);
      defaults = defaults_of state;
    }

-- ---- the RAM layout

abbrev pub ram_of : List ℕ → List ℕ
ram_of state = take (ram_entry_words * get_or state place.entries 0) (drop place.ram state)

abbrev pub entries_in : List ℕ → List MemoryRangeWithNode
entries_in state = entries_of (ram_of state)

-- ---- as a build leaves it: nothing under way, protections not enabled, the first defaults

abbrev pub built_state : List ℕ → ℕ → ℕ → ℕ → List ℕ
built_state ram isolation tracked release =
    replicate place.isolation 0
    ++ (isolation ∷ tracked ∷ release ∷ 0 ∷ bits.all_flags ∷ bits.no_flags ∷ replicate 9 0 ++ (length (entries_of ram) ∷ ram))
    ++ replicate (ram_len - length ram) 0
