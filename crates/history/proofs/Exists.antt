-- No list of calls is cut short for want of a call: of any buffers, fit or not, and with any arguments, every entry of the protector has a call with just these, and
-- something of another length may be lent to it, whatever was last left. Assumes nothing.
use native.Mathlib.Omega.{arith}
use mathlib.Core.Path.{◌≡◌, refl, ap, subst}
use mathlib.Core.Bool.{Bool, true, false, cond, ◌&&◌}
use mathlib.Core.List.{List, []}
use Prim.Native.Nat.{ℕ}
use lib.Dec.{eqb}
use lib.ListN.{length}
use borrow.Author.Tests.{eqb-true, eqb-false}
use contract.Lifetimes.{Lfts}
use Rattle.laws.specs.Refusal.{passed, first_passed}
use Rattle.layout.specs.Layout.{entries_of, refusal_of, map_len}
use Rattle.permissions.specs.Flags.{fit_isolation}
use Rattle.call_refusals.specs.Buffers.{Buffers, Outcome, lengths_in}
use Rattle.protector.specs.Calls.{refused_by, visibility_of, answer_done, answer_failed, build_taken, build_of}
use Rattle.call_refusals.specs.Refusals.{build_fits, build_refusal}
use Rattle.protection_entries.specs.Calls.{protection_of, default_of}
use Rattle.overlay_entries.specs.Calls.{register_of, unregister_of}
use Rattle.lock_entries.specs.Calls.{Kept, lock_of, unlock_of}
use Rattle.setting_entries.specs.Calls.{Enabled, enable_of}
use Rattle.queries.specs.Queries as queries
use Rattle.queries.specs.Queries.{query_of}
use Rattle.visibility_claims.specs.Whole.{BackendAnswer, Succeeds, Fails}
use Rattle.history.specs.Call.{Writer, Visibility, Protection, Default, Register, Unregister, Lock, Unlock, Enable, TellEnabled, TellDefault, IsOverlay, Query, Fault, Lower, Access, Reader, Call, Write, Read, Answer, Result, gives_writer, shown, gives}
use Rattle.history.specs.Made.{Lent, Lending, writes_all, reads_tables, reads_marks_tables, reads_marks_pages, reads_all, Seven, Nine, Made, visibility, done, failed, protection, default, register, unregister, lock, unlock, enable, tell_enabled, tell_default, is_overlay, query, fault, lower, access, Built, build}
use Rattle.history.specs.History.{IsRefusal, block, other, lock_block, lock_tables}
use Rattle.history.specs.Callable.{Callable, AnyOtherLengths}
use Rattle.history.specs.Answered.{given}
use Rattle.history.proofs.Bits.{clash}
use Rattle.history.proofs.Fits.{maps_in}
use Rattle.history.proofs.Spared.{visibility_same, protection_same, default_same, register_same, unregister_same}

-- ---- buffers as they are lent

abbrev lend : (writes : Bool) → List ℕ → Lent writes
lend true l = record { ref_ptr = (0, 0); ghost_name = 0; now = l }
lend false l = record { ref_ptr = (0, 0); now = l }

abbrev seven : {X : Type 0} (l : Lending) → Buffers → X → Seven l X
seven l w x = (lend l.marks w.maps.private, (lend l.marks w.maps.shared, (lend l.rest w.maps.permissions.read, (lend l.rest w.maps.permissions.write, (lend l.rest w.maps.permissions.kernel, (lend l.rest w.maps.permissions.user, (lend l.rest w.state, x)))))))

abbrev nine : {X : Type 0} (l : Lending) → Buffers → X → Nine l X
nine l w x = seven l w (lend l.pages w.pages, (lend l.tables w.tables, x))

abbrev lasting7 : Lfts 7
lasting7 = ([], ([], ([], ([], ([], ([], ([], tt)))))))

abbrev lasting9 : Lfts 9
lasting9 = ([], ([], lasting7))

abbrev lasting10 : Lfts 10
lasting10 = ([], lasting9)

-- what is lent for reading alone is what is left there
left_same : (c : Call) (r : Result c) (w : Buffers) {v x : Buffers} → v ≡ x → Made c w v r → Made c w x r
left_same c r w e m = subst (λ (v : Buffers). Made c w v r) e m

-- ---- every call

writer_made : (a : Writer) (w : Buffers) → Made (Write a) w (gives_writer a w).buffers (gives_writer a w).answer
writer_made (Visibility vtl share list) w =
    let X : Outcome = visibility_of w vtl share list in
    let e = visibility_same w vtl share list in
    left_same (Write (Visibility vtl share list)) X.reply w e (visibility lasting10 (nine reads_tables w (vtl, (share, (lend false list, tt)))) X.reply (nine reads_tables X.buffers (vtl, (share, (lend false list, tt)))) (ap (λ (v : Buffers). given v X.reply) e))
writer_made (Protection vtl flags list) w =
    let X : Outcome = protection_of w vtl flags list in
    let e = protection_same w vtl flags list in
    left_same (Write (Protection vtl flags list)) X.reply w e (protection lasting10 (nine reads_marks_tables w (vtl, (flags, (lend false list, tt)))) X.reply (nine reads_marks_tables X.buffers (vtl, (flags, (lend false list, tt)))) (ap (λ (v : Buffers). given v X.reply) e))
writer_made (Default vtl flags) w =
    let X : Outcome = default_of w vtl flags in
    let e = default_same w vtl flags in
    left_same (Write (Default vtl flags)) X.reply w e (default lasting9 (nine reads_marks_pages w (vtl, (flags, tt))) X.reply (nine reads_marks_pages X.buffers (vtl, (flags, tt))) (ap (λ (v : Buffers). given v X.reply) e))
writer_made (Register vtl page source checked new) w =
    let X : Outcome = register_of w vtl page source checked new in
    let e = register_same w vtl page source checked new in
    left_same (Write (Register vtl page source checked new)) X.reply w e
    (register lasting9 (nine reads_marks_pages w (vtl, (page, (source, (checked, (new, tt)))))) X.reply (nine reads_marks_pages X.buffers (vtl, (page, (source, (checked, (new, tt)))))) (ap (λ (v : Buffers). given v X.reply) e))
writer_made (Unregister vtl page) w =
    let X : Outcome = unregister_of w vtl page in
    let e = unregister_same w vtl page in
    left_same (Write (Unregister vtl page)) X.reply w e (unregister lasting9 (nine reads_marks_pages w (vtl, (page, tt))) X.reply (nine reads_marks_pages X.buffers (vtl, (page, tt))) (ap (λ (v : Buffers). given v X.reply) e))
writer_made (Lock vtl list) w =
    let k : Kept = lock_of w.state w.tables vtl list in
    lock w.maps w.pages ([], ([], ([], tt))) (lend false w.state, (lend true w.tables, (vtl, (lend false list, tt)))) k.reply (lend false w.state, (lend true k.tables, (vtl, (lend false list, tt)))) refl
writer_made (Unlock vtl list) w =
    let k : Kept = unlock_of w.state w.tables vtl list in
    unlock w.maps w.pages ([], ([], ([], tt))) (lend false w.state, (lend true w.tables, (vtl, (lend false list, tt)))) k.reply (lend false w.state, (lend true k.tables, (vtl, (lend false list, tt)))) refl
writer_made Enable w =
    let k : Enabled = enable_of w.state in
    enable w.maps w.pages w.tables ([], tt) (lend true w.state, tt) k.reply (lend true k.state, tt) refl

read_made : (q : Reader) (w : Buffers) → Made (Read q) w w (shown q w)
read_made TellEnabled w = tell_enabled w.maps w.pages w.tables ([], tt) (lend false w.state, tt) (shown TellEnabled w) (lend false w.state, tt) refl
read_made TellDefault w = tell_default w.maps w.pages w.tables ([], tt) (lend false w.state, tt) (shown TellDefault w) (lend false w.state, tt) refl
read_made (IsOverlay vtl page) w =
    is_overlay w.maps w.pages ([], ([], tt)) (lend false w.state, (lend false w.tables, (vtl, (page, tt)))) (shown (IsOverlay vtl page) w) (lend false w.state, (lend false w.tables, (vtl, (page, tt)))) refl
read_made (Query list out) w =
    let q : queries.Query = query_of w.state w.maps.shared list out in
    query w.maps.private w.maps.permissions w.pages w.tables ([], ([], ([], ([], tt)))) (lend false w.state, (lend false w.maps.shared, (lend false list, (lend true out, tt)))) q.reply
    (lend false w.state, (lend false w.maps.shared, (lend false list, (lend true q.out, tt)))) refl
read_made (Fault mapping view address writes failure) w =
    fault w.pages w.tables lasting7 (seven reads_all w (mapping, (view, (address, (writes, (failure, tt)))))) (shown (Fault mapping view address writes failure) w) (seven reads_all w (mapping, (view, (address, (writes, (failure, tt)))))) refl
read_made (Lower vtl page) w = lower w.pages w.tables lasting7 (seven reads_all w (vtl, (page, tt))) (shown (Lower vtl page) w) (seven reads_all w (vtl, (page, tt))) refl
read_made (Access page) w = access w.pages w.tables lasting7 (seven reads_all w (page, tt)) (shown (Access page) w) (seven reads_all w (page, tt)) refl

answer_made : (g : BackendAnswer) (w : Buffers) → Made (Answer g) w (gives (Answer g) w).buffers (gives (Answer g) w).answer
answer_made Succeeds w = let X : Outcome = answer_done w in done lasting9 (nine writes_all w tt) X.reply (nine writes_all X.buffers tt) refl
answer_made (Fails code n) w = let X : Outcome = answer_failed w code n in failed lasting9 (nine writes_all w (code, (n, tt))) X.reply (nine writes_all X.buffers (code, (n, tt))) refl

-- a build with a number that names no isolation is refused, by it or by what comes before
unfit_refused : (w : Buffers) (ram : List ℕ) (isolation tracked release : ℕ) → fit_isolation isolation ≡ false → IsRefusal (build_of w ram isolation tracked release).reply
unfolding build_of build_refusal
unfit_refused w ram isolation tracked release f e = go (eqb n 0) refl e
  where
    n : ℕ
    n = build_refusal ram isolation tracked release (build_fits (map_len (entries_of ram)) tracked (length w.state) (lengths_in w))

    go : (b : Bool) → eqb n 0 ≡ b → (cond b (build_taken w ram isolation tracked release) (refused_by w n)).reply.number ≡ 0 → ⊥
    go true h _ = clash _ (passed (fit_isolation isolation) 2 _ (first_passed (refusal_of ram) _ (eqb-true n 0 h)).1).0 f
    go false h z = eqb-false n 0 h z

pub any_call : (w : Buffers) → Callable w
any_call w = record { made = made; built = built; refused = λ ram isolation tracked release f. unfit_refused w ram isolation tracked release f }
  where
    made : (c : Call) → Made c w (gives c w).buffers (gives c w).answer
    made (Write a) = writer_made a w
    made (Read q) = read_made q w
    made (Answer g) = answer_made g w

    built : (ram : List ℕ) (isolation tracked release : ℕ) → let X = build_of w ram isolation tracked release in Built ram isolation tracked release w X.buffers X.reply
    built ram isolation tracked release =
        let X : Outcome = build_of w ram isolation tracked release in
        build lasting10 (lend false ram, (isolation, (tracked, (release, nine writes_all w tt)))) X.reply (lend false ram, (isolation, (tracked, (release, nine writes_all X.buffers tt)))) refl

-- ---- something of another length, whatever was last left

pub any_other_lengths : (u : Buffers) → AnyOtherLengths u
any_other_lengths u =
    record {
      no_block = block (λ e. absurd (omega (arith, e)));
      no_pages = other refl (none (maps_in u));
      no_lock_block = lock_block (λ e. absurd (omega (arith, e)));
      no_lock_tables = lock_tables refl (λ e. absurd (omega (arith, e)));
    }
  where
    none : (b : Bool) → (b && false) ≡ false
    none true = refl
    none false = refl
