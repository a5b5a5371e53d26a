-- The invariant: its parts by name, and that every list of calls keeps them together. A further part is a field here and a `product` more. Assumes nothing.
use native.Mathlib.Omega.{arith}
use mathlib.Core.Path.{◌≡◌}
use mathlib.Core.List.{List}
use Prim.Native.Nat.{ℕ, ◌<◌}
use lib.ListN.{set}
use lib.Seq.{get_or-drop, drop-drop, get_or-set_other, drop-set-lt}
use Rattle.layout.specs.declared.MemoryRangeWithNode.{MemoryRangeWithNode}
use Rattle.permissions.specs.declared.GuestVtl.{GuestVtl}
use Rattle.permissions.specs.declared.GuestVtl.TheVariants.{Vtl0, Vtl1}
use Rattle.permissions.specs.Flags.{isolation_of}
use Rattle.visibility_steps.specs.declared.Phase.{Phase}
use Rattle.visibility_steps.specs.declared.Request.{Request}
use Rattle.change_steps.specs.declared.Stage.{Stage}
use Rattle.change_steps.specs.declared.Change.{Change}
use Rattle.protector_state.specs.State.{ram_of, with_request}
use Rattle.protector_state.specs.Changing.{with_change}
use Rattle.call_refusals.specs.Buffers.{Buffers}
use Rattle.protection_entries.specs.Calls.{stored_default}
use Rattle.history.specs.Observed.{Observed}
use Rattle.history.specs.History.{History}
use Rattle.history.specs.Tables.{TablesFit}
use Rattle.history.specs.Settings.{SettingsFit}
use Rattle.history.specs.Permitted.{Permitted}
use Rattle.history.proofs.Buffers.{Stands}
use Rattle.history.proofs.Passed.{Fitting}
use Rattle.history.proofs.Histories.{Keeps, Both, InBuffers, product, history_keeps, stands_kept, SnpAges, ages_kept, Lengths, lengths_kept, Unlisted, unlisted_kept}
use Rattle.history.proofs.Tabled.{tables_kept}
use Rattle.history.proofs.PermittedCalls.{permissions_kept}
use Rattle.history.proofs.StateWords.{Words, words_kept}
use Rattle.history.proofs.Settings.{settings_words}

-- ---- the layout's words stay

module _ (l : List ℕ) where
  abbrev Ram : List ℕ → Type 0
  Ram s = ram_of s ≡ l

  requested : (p : Phase) (q : Request) (s : List ℕ) → Ram s → Ram (with_request p q s)
  requested p q s k = rw (get_or-drop 10 s 21 0, drop-drop 22 10 s) k

  changing : (g : Stage) (q : Change) (s : List ℕ) → Ram s → Ram (with_change g q s)
  changing g q s k = rw (get_or-drop 14 s 17 0, drop-drop 18 14 s) k

  set_ram : (s : List ℕ) (i x : ℕ) → i < 31 → Ram s → Ram (set s i x)
  set_ram s i x h k = rw (get_or-set_other s i 31 x 0 (λ e. omega arith), drop-set-lt 32 s i x (omega arith)) k

  stored_ram : (s : List ℕ) (v : GuestVtl) (flags : ℕ) → Ram s → Ram (stored_default s v flags)
  stored_ram s Vtl0 flags k = set_ram s 20 flags (omega arith) k
  stored_ram s Vtl1 flags k = set_ram s 21 flags (omega arith) k

  ram_words : Words Ram
  ram_words = record { requested = requested; changing = changing; defaulted = λ s v flags _ _ k. stored_ram s v flags k; enabling = λ s _ _ k. set_ram s 19 1 (omega arith) k }

-- ---- of the layout es, its words l, and a build with isolation i, tracked t and release flag r

pub record Invariant (es : List MemoryRangeWithNode) (l : List ℕ) (i t r : ℕ) (w : Buffers) (o : Observed) : Type 0 where
  pub stands : Stands es w o
  pub tables : TablesFit es w
  pub permitted : Permitted es w
  pub ages : SnpAges (isolation_of i) w o
  pub fitting : Fitting w
  pub unlisted : Unlisted w o
  pub settings : SettingsFit i t r w.state
  pub ram : ram_of w.state ≡ l

module _ (es : List MemoryRangeWithNode) (l : List ℕ) (i t r : ℕ) where
  abbrev Marks : Buffers → Observed → Type 0
  Marks = Both (Both (Both (Stands es) (InBuffers (TablesFit es))) (InBuffers (Permitted es))) (SnpAges (isolation_of i))

  abbrev Listed : Buffers → Observed → Type 0
  Listed = Both (Both Marks Lengths) Unlisted

  abbrev Set : Buffers → Observed → Type 0
  Set = Both Listed (InBuffers (λ (w : Buffers). SettingsFit i t r w.state))

  abbrev All : Buffers → Observed → Type 0
  All = Both Set (InBuffers (λ (w : Buffers). Ram l w.state))

  marks_kept : Keeps Marks
  marks_kept = product (product (product (stands_kept es) (tables_kept es)) (permissions_kept es)) (λ c w o k. ages_kept es (isolation_of i) c w o k.first.first)

  listed_kept : Keeps Listed
  listed_kept = product (product marks_kept (lengths_kept Marks)) (unlisted_kept (Both Marks Lengths))

  all_kept : Keeps All
  all_kept = product (product listed_kept (words_kept (SettingsFit i t r) (settings_words i t r) Listed)) (words_kept (Ram l) (ram_words l) Set)

  -- every list of calls keeps it
  pub invariant_kept : {w : Buffers} {a : Observed} {v : Buffers} {o : Observed} → History w a v o → Invariant es l i t r w a → Invariant es l i t r v o
  invariant_kept h k =
      let x =
      history_keeps All all_kept h
      (record {
        first = record {
          first = record { first = record { first = record { first = record { first = record { first = k.stands; second = k.tables }; second = k.permitted }; second = k.ages }; second = k.fitting }; second = k.unlisted };
          second = k.settings;
        };
        second = k.ram;
      }) in
      let y = x.first.first in
      let m = y.first.first in
      record {
        stands = m.first.first.first;
        tables = m.first.first.second;
        permitted = m.first.second;
        ages = m.second;
        fitting = y.first.second;
        unlisted = y.second;
        settings = x.first.second;
        ram = x.second;
      }
