-- What holds at every stop of the marks, by place in the request's table, and what a step of a visibility change must be to keep it. Assumes nothing.
use Prim.Native.Nat.{ℕ, ◌/◌, ◌≤◌, ◌<◌}
use mathlib.Core.Path.{◌≡◌, refl, sym, ap, ◌∙◌}
use mathlib.Core.List.{List}
use mathlib.Core.Bool.{Bool, true, false, not, ◌&&◌}
use mathlib.Core.Logic.{◌⊎◌, ⊎_elim}
use native.Mathlib.Omega.{arith}
use lib.ListN.{length, get_or}
use lib.Dec.{eqb, ltb}
use Rattle.abi.specs.Refusals as refusal
use Rattle.bitmap.specs.Pages.{bit_at, written}
use Rattle.bitmap.proofs.Map.{length_written}
use Rattle.page_list.specs.Pages.{among}
use Rattle.page_list.specs.Runs.{part}
use Rattle.request_pages.specs.Request.{put}
use Rattle.permissions.specs.declared.IsolationType.{IsolationType}
use Rattle.visibility_steps.specs.declared.Phase.{Phase}
use Rattle.visibility_steps.specs.declared.Phase.TheVariants as at
use Rattle.visibility_steps.specs.declared.Request.{Request}
use Rattle.visibility_steps.specs.declared.Writes.{Writes}
use Rattle.visibility_steps.specs.declared.Step.{Step}
use Rattle.visibility_steps.specs.Steps.{run_of}
use Rattle.protector_state.specs.declared.Reply.{Reply}
use Rattle.protector_state.specs.Reply.{modifies, on_run, flat_of}
use Rattle.call_refusals.specs.Buffers.{status_of}
use Rattle.protector.specs.Writes.{put_places}
use Rattle.history.specs.Observed.{asks, goes_on}
use Rattle.history.specs.Marks.{Has}
use Rattle.history.proofs.Bits.{clash, of_part, inside, set_cases, set_has, set_keeps}

-- the pages under way bear neither mark while one of these operations is outstanding
abbrev pub opened : Phase → Bool
opened at.Idle = false
opened at.Halted = false
opened at.Wait = true
opened at.FlushAll = true
opened at.ProtectNone0 = true
opened at.ProtectNone1 = true
opened at.Invalidate = true
opened at.Release = true
opened at.Modify = true
opened at.Accept = true
opened at.Zero = true
opened at.ProtectDefault0 = false
opened at.ProtectDefault1 = false

abbrev pub is_halted : Phase → Bool
is_halted at.Idle = false
is_halted at.Halted = true
is_halted at.Wait = false
is_halted at.FlushAll = false
is_halted at.ProtectNone0 = false
is_halted at.ProtectNone1 = false
is_halted at.Invalidate = false
is_halted at.Release = false
is_halted at.Modify = false
is_halted at.Accept = false
is_halted at.Zero = false
is_halted at.ProtectDefault0 = false
is_halted at.ProtectDefault1 = false

-- what was last taken of them: before the answer to Modify the other way round, then private
abbrev pub dir : Phase → Bool → Bool
dir at.Idle b = not b
dir at.Halted b = not b
dir at.Wait b = not b
dir at.FlushAll b = not b
dir at.ProtectNone0 b = not b
dir at.ProtectNone1 b = not b
dir at.Invalidate b = not b
dir at.Release b = not b
dir at.Modify b = not b
dir at.Accept b = false
dir at.Zero b = false
dir at.ProtectDefault0 b = not b
dir at.ProtectDefault1 b = not b

-- an operation that the hypervisor's view and the pages' stage don't depend on
abbrev pub is_quiet : Reply → Bool
is_quiet r = not (ltb 5 r.operation && ltb r.operation 9)

-- the operation outstanding is the one that the phase names
abbrev pub Names : Phase → Request → List ℕ → Reply → Type 0
Names at.Idle q t r = is_quiet r ≡ true
Names at.Halted q t r = is_quiet r ≡ true
Names at.Wait q t r = is_quiet r ≡ true
Names at.FlushAll q t r = is_quiet r ≡ true
Names at.ProtectNone0 q t r = is_quiet r ≡ true
Names at.ProtectNone1 q t r = is_quiet r ≡ true
Names at.Invalidate q t r = is_quiet r ≡ true
Names at.Release q t r = is_quiet r ≡ true
Names at.Modify q t r = r ≡ modifies q.share q.n
Names at.Accept q t r = r ≡ on_run 7 (run_of q t)
Names at.Zero q t r = r ≡ on_run 8 (run_of q t)
Names at.ProtectDefault0 q t r = is_quiet r ≡ true
Names at.ProtectDefault1 q t r = is_quiet r ≡ true

-- ---- what holds, of the maps, the phase, the request and its table, and of what was seen

pub record Right (ram : ℕ → Bool) (P S : List ℕ) (p : Phase) (q : Request) (t : List ℕ) (halted : Bool) (listed : List ℕ) (last : ℕ → Bool) : Type 0 where
  pub room_private : (z : ℕ) → ram z ≡ true → z / 8 < length P
  pub room_shared : (z : ℕ) → ram z ≡ true → z / 8 < length S
  pub private_ram_lem : (z : ℕ) → Has P z → ram z ≡ true
  pub shared_ram : (z : ℕ) → Has S z → ram z ≡ true
  pub only_private : (z : ℕ) → Has P z → last z ≡ false
  pub only_shared : (z : ℕ) → Has S z → last z ≡ true
  pub full : (z : ℕ) → ram z ≡ true → ((j : ℕ) → opened p ≡ true → j < q.n → j < length t → get_or t j 0 ≡ z → ⊥) → (halted ≡ true → among listed z ≡ false)
      → (last z ≡ false → Has P z) × (last z ≡ true → Has S z)
  pub bare : opened p ≡ true → (j : ℕ) → j < q.n → j < length t → (Has P (get_or t j 0) → ⊥) × (Has S (get_or t j 0) → ⊥)
  pub once : opened p ≡ true → (i j : ℕ) → i < q.n → j < q.n → i < length t → j < length t → get_or t i 0 ≡ get_or t j 0 → i ≡ j
  pub toward : opened p ≡ true → (j : ℕ) → j < q.n → j < length t → last (get_or t j 0) ≡ dir p q.share
  pub within : opened p ≡ true → (j : ℕ) → j < q.n → j < length t → ram (get_or t j 0) ≡ true
  pub named : opened p ≡ true → (j : ℕ) → j < q.n → j < length t → among listed (get_or t j 0) ≡ true

-- ---- a step from a request of n pages

-- a reply that no answer gives that isn't taken: neither for a length nor as not asked for
pub record TakenReply (r : Reply) : Type 0 where
  pub not4 : eqb r.number refusal.wrong_length ≡ false
  pub not21 : eqb r.number refusal.nothing_asked ≡ false

-- what it tells: a taken answer, halted or waiting as its phase is, and the operation that its phase names
pub record Tells (i : IsolationType) (t : List ℕ) (x : Step) : Type 0 where
  pub taken : TakenReply (flat_of i x.answer)
  pub halts : eqb (flat_of i x.answer).number refusal.halted ≡ is_halted x.phase
  pub waits : asks (flat_of i x.answer) ≡ eqb (status_of x.phase) refusal.busy
  pub stays : opened x.phase ≡ true → goes_on (flat_of i x.answer) ≡ true
  pub names : Names x.phase x.request t (flat_of i x.answer)

-- what it writes: private marks below the place m, shared ones from m on
pub record Wrote (n m : ℕ) (w : Writes) : Type 0 where
  pub on : w.state ≡ true
  pub low : w.private.to ≤ m
  pub inside : w.private.to ≤ n
  pub high : (j : ℕ) → w.shared.from ≤ j → j < w.shared.to → (m ≤ j) × (j < n)

-- o: its pages were bare
pub record Fits (i : IsolationType) (t : List ℕ) (o : Bool) (n : ℕ) (x : Step) : Type 0 where
  pub m : ℕ
  pub wrote : Wrote n m x.writes
  pub was : o ≡ false → (x.writes.private.to ≡ 0) × (x.writes.shared.to ≤ x.writes.shared.from)
  pub opens : opened x.phase ≡ true → (x.writes.private.to ≡ 0) × (x.request.n ≤ m) × (x.request.n ≤ n) × (o ≡ true)
  pub tells : Tells i t x

-- what is taken stays as it was but of the first n pages of the table t
abbrev pub StaysBut : List ℕ → ℕ → (last now : ℕ → Bool) → Type 0
StaysBut t n last now = (z : ℕ) → among (part t n 0) z ≡ false → now z ≡ last z

-- how it goes with what is taken
pub record Moves (p : Phase) (q : Request) (t : List ℕ) (last now : ℕ → Bool) (x : Step) : Type 0 where
  pub same : opened p ≡ false → (z : ℕ) → now z ≡ last z
  pub kept : StaysBut t q.n last now
  pub new_private : (j : ℕ) → j < x.writes.private.to → j < length t → now (get_or t j 0) ≡ false
  pub new_shared : (j : ℕ) → x.writes.shared.from ≤ j → j < x.writes.shared.to → j < length t → now (get_or t j 0) ≡ true
  pub covered : opened p ≡ true → (j : ℕ) → j < q.n → (opened x.phase ≡ true → j < x.request.n → ⊥) → (is_halted x.phase ≡ true → ⊥)
      → ((x.writes.private.from ≤ j) × (j < x.writes.private.to)) ⊎ ((x.writes.shared.from ≤ j) × (j < x.writes.shared.to))
  pub toward : opened x.phase ≡ true → (j : ℕ) → j < x.request.n → j < length t → now (get_or t j 0) ≡ dir x.phase x.request.share

-- ---- such a step keeps what is right

module _ (ram : ℕ → Bool) (P S : List ℕ) (p : Phase) (q : Request) (t listed : List ℕ) (last now : ℕ → Bool) (i : IsolationType) (x : Step)
    (g : Right ram P S p q t false listed last) (f : Fits i t (opened p) q.n x) (mv : Moves p q t last now x) where
  abbrev n : ℕ
  n = q.n

  abbrev P' : List ℕ
  P' = put_places t x.writes.private x.writes.state P

  abbrev S' : List ℕ
  S' = put_places t x.writes.shared x.writes.state S

  abbrev IsP : ℕ → Bool
  IsP = among (part t x.writes.private.to x.writes.private.from)

  abbrev IsS : ℕ → Bool
  IsS = among (part t x.writes.shared.to x.writes.shared.from)

  private_is : P' ≡ written 8 IsP true P
  unfolding put
  private_is = ap (λ (b : Bool). written 8 IsP b P) f.wrote.on

  shared_is : S' ≡ written 8 IsS true S
  unfolding put
  shared_is = ap (λ (b : Bool). written 8 IsS b S) f.wrote.on

  -- a page that bears a mark bore it, or is at a place that was written
  new_private : (z : ℕ) → Has P' z → (Has P z → ⊥) → (opened p ≡ true → (j : ℕ) → j < x.writes.private.to → j < length t → get_or t j 0 ≡ z → ⊥) → ⊥
  new_private z h old new = go (opened p) refl
    where
      at_place : ((j : ℕ) → j < x.writes.private.to → j < length t → get_or t j 0 ≡ z → ⊥) → ⊥
      at_place k = set_cases IsP P z (ap (λ (m : List ℕ). bit_at 8 m z) (sym private_is) ∙ h) (λ e. of_part x.writes.private.from x.writes.private.to t z e (λ j a b d i. k j b d i)) old

      go : (b : Bool) → opened p ≡ b → ⊥
      go true e = at_place (new e)
      go false e = at_place (λ j a d i. omega (arith, (f.was e).0))

  new_shared : (z : ℕ) → Has S' z → (Has S z → ⊥)
      → (opened p ≡ true → (j : ℕ) → x.writes.shared.from ≤ j → j < x.writes.shared.to → j < length t → get_or t j 0 ≡ z → ⊥) → ⊥
  new_shared z h old new = go (opened p) refl
    where
      at_place : ((j : ℕ) → x.writes.shared.from ≤ j → j < x.writes.shared.to → j < length t → get_or t j 0 ≡ z → ⊥) → ⊥
      at_place k = set_cases IsS S z (ap (λ (m : List ℕ). bit_at 8 m z) (sym shared_is) ∙ h) (λ e. of_part x.writes.shared.from x.writes.shared.to t z e k) old

      go : (b : Bool) → opened p ≡ b → ⊥
      go true e = at_place (new e)
      go false e = at_place (λ j a b d i. omega (arith, (f.was e).1))

  moved : (z : ℕ) → (now z ≡ last z → ⊥) → ((j : ℕ) → opened p ≡ true → j < n → j < length t → get_or t j 0 ≡ z → ⊥) → ⊥
  moved z k under = go (opened p) refl
    where
      find : opened p ≡ true → (c : Bool) → among (part t n 0) z ≡ c → ⊥
      find o true e = of_part 0 n t z e (λ j _ b d i. under j o b d i)
      find o false e = k (mv.kept z e)

      go : (c : Bool) → opened p ≡ c → ⊥
      go true o = find o (among (part t n 0) z) refl
      go false o = k (mv.same o z)

  right_private : (z : ℕ) → Has P' z → (c : Bool) → now z ≡ c → now z ≡ false
  right_private z h false e = e
  right_private z h true e =
      absurd
      (new_private z h (λ old. moved z (λ s. clash (now z) e (s ∙ g.only_private z old)) (λ j o b d i. (g.bare o j b d).0 (ap (λ (y : ℕ). bit_at 8 P y) i ∙ old)))
      (λ o j b d i. clash (now z) e (ap now (sym i) ∙ mv.new_private j b d)))

  right_shared : (z : ℕ) → Has S' z → (c : Bool) → now z ≡ c → now z ≡ true
  right_shared z h true e = e
  right_shared z h false e =
      absurd
      (new_shared z h (λ old. moved z (λ s. clash (now z) (s ∙ g.only_shared z old) e) (λ j o b d i. (g.bare o j b d).1 (ap (λ (y : ℕ). bit_at 8 S y) i ∙ old)))
      (λ o j a b d i. clash (now z) (ap now (sym i) ∙ mv.new_shared j a b d) e))

  ram_private : (z : ℕ) → Has P' z → (c : Bool) → ram z ≡ c → ram z ≡ true
  ram_private z h true e = e
  ram_private z h false e =
      absurd
      (new_private z h (λ old. clash (ram z) (g.private_ram_lem z old) e)
      (λ o j b d i. clash (ram z) (ap ram (sym i) ∙ g.within o j (omega (arith, f.wrote.inside)) d) e))

  ram_shared : (z : ℕ) → Has S' z → (c : Bool) → ram z ≡ c → ram z ≡ true
  ram_shared z h true e = e
  ram_shared z h false e =
      absurd
      (new_shared z h (λ old. clash (ram z) (g.shared_ram z old) e)
      (λ o j a b d i. clash (ram z) (ap ram (sym i) ∙ g.within o j (f.wrote.high j a b).1 d) e))

  -- the pages listed stay so while the step leaves the call under way or halted
  module _ (listed' : List ℕ) (stays : opened x.phase ≡ true → listed' ≡ listed) (halts : is_halted x.phase ≡ true → listed' ≡ listed) where
    abbrev Away : ℕ → Type 0
    Away z = (j : ℕ) → opened x.phase ≡ true → j < x.request.n → j < length t → get_or t j 0 ≡ z → ⊥

    abbrev Off : ℕ → Type 0
    Off z = is_halted x.phase ≡ true → among listed' z ≡ false

    off_halted : (z : ℕ) → Off z → (j : ℕ) → opened p ≡ true → j < n → j < length t → get_or t j 0 ≡ z → is_halted x.phase ≡ true → ⊥
    off_halted z a j o b d y h = clash (among listed z) (ap (among listed) (sym y) ∙ g.named o j b d) (ap (λ (l : List ℕ). among l z) (sym (halts h)) ∙ a h)

    full_before : (z : ℕ) → ram z ≡ true → ((j : ℕ) → opened p ≡ true → j < n → j < length t → get_or t j 0 ≡ z → ⊥) → (last z ≡ false → Has P z) × (last z ≡ true → Has S z)
    full_before z r under = g.full z r under (λ e. clash false e refl)

    has_private : (z : ℕ) → ram z ≡ true → Away z → Off z → now z ≡ false → (c : Bool) → bit_at 8 P' z ≡ c → Has P' z
    has_private z r a off l true e = e
    has_private z r a off l false e =
        let e' : bit_at 8 (written 8 IsP true P) z ≡ false = ap (λ (m : List ℕ). bit_at 8 m z) (sym private_is) ∙ e in
        let under : (j : ℕ) → opened p ≡ true → j < n → j < length t → get_or t j 0 ≡ z → ⊥ =
        λ j o b d y. ⊎_elim
        (λ u. clash (bit_at 8 (written 8 IsP true P) z) (set_has IsP P z (ap IsP (sym y) ∙ inside x.writes.private.from x.writes.private.to t j u.0 u.1 d) (g.room_private z r)) e')
        (λ v. clash (now z) (ap now (sym y) ∙ mv.new_shared j v.0 v.1 d) l)
        (mv.covered o j b (λ lx jn. a j lx jn d y) (off_halted z off j o b d y)) in
        absurd (moved z (λ s. clash (bit_at 8 (written 8 IsP true P) z) (set_keeps IsP P z ((full_before z r under).0 (sym s ∙ l))) e') under)

    has_shared : (z : ℕ) → ram z ≡ true → Away z → Off z → now z ≡ true → (c : Bool) → bit_at 8 S' z ≡ c → Has S' z
    has_shared z r a off l true e = e
    has_shared z r a off l false e =
        let e' : bit_at 8 (written 8 IsS true S) z ≡ false = ap (λ (m : List ℕ). bit_at 8 m z) (sym shared_is) ∙ e in
        let under : (j : ℕ) → opened p ≡ true → j < n → j < length t → get_or t j 0 ≡ z → ⊥ =
        λ j o b d y. ⊎_elim
        (λ v. clash (now z) l (ap now (sym y) ∙ mv.new_private j v.1 d))
        (λ u. clash (bit_at 8 (written 8 IsS true S) z) (set_has IsS S z (ap IsS (sym y) ∙ inside x.writes.shared.from x.writes.shared.to t j u.0 u.1 d) (g.room_shared z r)) e')
        (mv.covered o j b (λ lx jn. a j lx jn d y) (off_halted z off j o b d y)) in
        absurd (moved z (λ s. clash (bit_at 8 (written 8 IsS true S) z) (set_keeps IsS S z ((full_before z r under).1 (sym s ∙ l))) e') under)

    long_private : length P' ≡ length P
    unfolding put
    long_private = length_written 8 _ _ P

    long_shared : length S' ≡ length S
    unfolding put
    long_shared = length_written 8 _ _ S

    still_bare : opened x.phase ≡ true → (j : ℕ) → j < x.request.n → j < length t → (Has P' (get_or t j 0) → ⊥) × (Has S' (get_or t j 0) → ⊥)
    still_bare e j h d =
        let z = f.opens e in
        let b = g.bare z.3 j (omega arith) d in (
          λ k. new_private (get_or t j 0) k b.0 (λ _ i u _ _. omega arith),
          λ k. new_shared (get_or t j 0) k b.1 (λ e' i u v d' y. let k = f.wrote.high i u v in let s : i ≡ j = g.once e' i j k.1 (omega arith) d' d y in omega arith),
        )

    pub made_right : Right ram P' S' x.phase x.request t (is_halted x.phase) listed' now
    made_right =
        record {
          room_private = λ z r. omega (arith, long_private, g.room_private z r);
          room_shared = λ z r. omega (arith, long_shared, g.room_shared z r);
          private_ram_lem = λ z h. ram_private z h (ram z) refl;
          shared_ram = λ z h. ram_shared z h (ram z) refl;
          only_private = λ z h. right_private z h (now z) refl;
          only_shared = λ z h. right_shared z h (now z) refl;
          full = λ z r a off. (λ l. has_private z r a off l (bit_at 8 P' z) refl, λ l. has_shared z r a off l (bit_at 8 S' z) refl);
          bare = still_bare;
          once = λ e i j h k. let z = f.opens e in g.once z.3 i j (omega arith) (omega arith);
          toward = mv.toward;
          within = λ e j h d. let z = f.opens e in g.within z.3 j (omega arith) d;
          named = λ e j h d. let z = f.opens e in ap (λ (l : List ℕ). among l (get_or t j 0)) (stays e) ∙ g.named z.3 j (omega arith) d;
        }
