-- The first refusal whose condition holds: of one condition, of two, of one for each position, and of an order that goes on.
use Prim.Native.Nat.{ℕ, zero, suc, ◌+◌, ◌≤◌, ◌<◌}
use native.Mathlib.Decide.{ℕ_discrete, dec_le}
use native.Mathlib.Omega.{arith}
use mathlib.Core.Path.{◌≡◌, refl, ap, ◌∙◌}
use mathlib.Core.Logic.{◌↔◌, inl, inr, ⊎_elim}
use mathlib.Core.Bool.{Bool, true, false, false≢true}
use mathlib.Core.List.{List, [], ◌∷◌, ◌++◌}
use lib.Dec.{eqb}
use borrow.Author.Tests.{eqb-false}
use Rattle.week.specs.declared.refusal.Refusal.{Refusal}
use Rattle.week.specs.Refusal.{accepted, refused, refused_if, or_else, first_of, first, at_place}
use Rattle.week.specs.RefusalOrder.{stage, rank, NoLater, FirstToHold, ◌when◌, ◌or◌, some_of}
use Rattle.week.proofs.First.{number_of_lem, refuses_too, or_first, or_second, first_of-append, first_none, place_if}

pub no_later_self : (r : Refusal) → NoLater r r
no_later_self r =
    record { stages = omega arith; places = λ _. omega arith; numbers = λ _ _. omega arith; recipes = λ _ _. omega arith }

-- a refusal whose stage comes before another's
pub earlier_stage : (r s : Refusal) → stage r.number < stage s.number → NoLater r s
earlier_stage r s before =
    record {
      stages = omega arith;
      places = λ same. absurd (omega arith);
      numbers = λ same _. absurd (omega arith);
      recipes = λ same _. absurd (omega (arith, ap stage same));
    }

-- no condition of A stands after one of B
abbrev pub Ahead : (A B : Refusal → Type 0) → Type 0
Ahead A B = (s t : Refusal) → A s → B t → NoLater s t

-- nothing holds
pub nothing_holds : {A : Refusal → Type 0} → ((s : Refusal) → A s → ⊥) → FirstToHold A accepted
nothing_holds none = record { holds = λ n. absurd (n refl); first = λ n. absurd (n refl); nothing = λ _. none }

-- one condition that holds
pub when_holds : (number place recipe : ℕ) → eqb number 0 ≡ false → {P : Type 0} → P →
    FirstToHold (refused number place recipe when P) (refused number place recipe)
when_holds number place recipe some p =
    record {
      holds = λ _. (refl, p);
      first = λ _ s h. rw h.0 (no_later_self (refused number place recipe));
      nothing = λ z. absurd (eqb-false number 0 some z);
    }

-- .. or not
pub if_holds : (number place recipe : ℕ) → eqb number 0 ≡ false → {holds : Bool} {P : Type 0} → (holds ≡ true) ↔ P →
    FirstToHold (refused number place recipe when P) (refused_if number place recipe holds)
unfolding refused_if
if_holds number place recipe some {holds} {P} says = by_case holds says
  where
    by_case : (holds : Bool) → (holds ≡ true) ↔ P →
        FirstToHold (refused number place recipe when P) (refused_if number place recipe holds)
    by_case true says = when_holds number place recipe some (says.0 refl)
    by_case false says = nothing_holds (λ s h. false≢true (says.1 h.1))

-- .. that names no place, in the place that it is given
pub at_holds : (number place recipe : ℕ) → eqb number 0 ≡ false → {holds : Bool} {P : Type 0} → (holds ≡ true) ↔ P →
    FirstToHold (refused number place recipe when P) (at_place place (refused_if number 0 recipe holds))
at_holds number place recipe some {holds} says = rw (place_if number place recipe some holds) (if_holds number place recipe some says)

-- of two, the first of which refuses, ..
pub or_here : {A B : Refusal → Type 0} {a : Refusal} → FirstToHold A a → (a.number ≡ 0 → ⊥) → Ahead A B → FirstToHold (A or B) a
or_here {a = a} one n ahead =
    record {
      holds = λ _. inl (one.holds n);
      first = λ _ s. ⊎_elim (one.first n s) (ahead a s (one.holds n));
      nothing = λ z. absurd (n z);
    }

-- .. or does not
pub or_there : {A B : Refusal → Type 0} {b : Refusal} → ((s : Refusal) → A s → ⊥) → FirstToHold B b → FirstToHold (A or B) b
or_there none two =
    record {
      holds = λ n. inr (two.holds n);
      first = λ n s. ⊎_elim (λ h. absurd (none s h)) (two.first n s);
      nothing = λ z s. ⊎_elim (none s) (two.nothing z s);
    }

pub or_holds : {A B : Refusal → Type 0} (a b : Refusal) → FirstToHold A a → (a.number ≡ 0 → FirstToHold B b) → Ahead A B →
    FirstToHold (A or B) (or_else a b)
or_holds a b one two ahead =
    elim (ℕ_discrete a.number 0) [
      | yes z ↦ rw (or_second a b z) (or_there (one.nothing z) (two z))
      | no n ↦ rw (or_first a b n) (or_here one n ahead)
    ]

-- an order in two parts
pub append_holds : {A B : Refusal → Type 0} (xs ys : List Refusal) → FirstToHold A (first_of xs) →
    ((first_of xs).number ≡ 0 → FirstToHold B (first_of ys)) → Ahead A B → FirstToHold (A or B) (first_of (xs ++ ys))
append_holds xs ys one two ahead = rw (first_of-append xs ys) (or_holds (first_of xs) (first_of ys) one two ahead)

-- one refusal by itself
pub one_holds : {A : Refusal → Type 0} (a : Refusal) → FirstToHold A a → FirstToHold A (first_of (a ∷ []))
unfolding first_of
one_holds {A} a h =
    elim (ℕ_discrete a.number 0) [
      | yes z ↦ rw (or_second a accepted z) (nothing_holds (h.nothing z))
      | no n ↦ rw (or_first a accepted n) h
    ]

-- the first of f i, f (i + 1), .. that refuses is one of them, and those before it do not refuse
record FoundAt (f : ℕ → Refusal) (i m : ℕ) (r : Refusal) : Type 0 where
  pub at : ℕ
  pub from : i ≤ at
  pub below : at < i + m
  pub is : r ≡ f at
  pub before : (h : ℕ) → i ≤ h → h < at → (f h).number ≡ 0

found : (f : ℕ → Refusal) (i m : ℕ) → ((first f i m).number ≡ 0 → ⊥) → FoundAt f i m (first f i m)
unfolding first
found f i zero n = absurd (n refl)
found f i (suc m) n =
    elim (ℕ_discrete (f i).number 0) [
      | yes z ↦
          let rest = or_second (f i) (first f (suc i) m) z in
          let later = found f (suc i) m (λ e. n (number_of_lem rest ∙ e)) in
          record {
            at = later.at;
            from = omega (arith, later.from);
            below = omega (arith, later.below);
            is = rest ∙ later.is;
            before = λ h low high.
                elim (ℕ_discrete h i) [
                  | yes e ↦ ap (λ (k : ℕ). (f k).number) e ∙ z
                  | no other ↦ later.before h (omega arith) high
                ];
          }
      | no here ↦
          record {
            at = i;
            from = omega arith;
            below = omega arith;
            is = or_first (f i) (first f (suc i) m) here;
            before = λ h low high. absurd (omega arith);
          }
    ]

-- what each position's conditions say
pub some_within : (C : ℕ → Refusal → Type 0) (Q : Refusal → Type 0) (n : ℕ) →
    ((h : ℕ) → h < n → (r : Refusal) → C (suc h) r → Q r) → (r : Refusal) → some_of n C r → Q r
some_within C Q n each r (i, low, high, h) = by_case i low high h
  where
    by_case : (i : ℕ) → 1 ≤ i → i ≤ n → C i r → Q r
    by_case zero low high h = absurd (omega arith)
    by_case (suc i) low high h = each i (omega arith) r h

-- of one for each position
pub some_holds : (C : ℕ → Refusal → Type 0) (f : ℕ → Refusal) (n : ℕ) →
    ((h : ℕ) → h < n → FirstToHold (C (suc h)) (f h)) → ((i j : ℕ) → i < j → Ahead (C (suc i)) (C (suc j))) →
    FirstToHold (some_of n C) (first f 0 n)
some_holds C f n each ahead =
    record {
      holds = λ some.
          let at = found f 0 n some in
          rw at.is
          (suc at.at, omega arith, omega (arith, at.below), (each at.at (omega (arith, at.below))).holds (refuses_too at.is some));
      first = λ some s.
          let at = found f 0 n some in
          rw at.is
          (some_within C (NoLater (f at.at)) n
          (against at.at (omega (arith, at.below)) (refuses_too at.is some) at.before)
          s);
      nothing = λ z. some_within C (λ _. ⊥) n (λ i l. (each i l).nothing (first_none f n z i l));
    }
  where
    against : (at : ℕ) → at < n → ((f at).number ≡ 0 → ⊥) → ((h : ℕ) → 0 ≤ h → h < at → (f h).number ≡ 0) →
        (i : ℕ) → i < n → (s : Refusal) → C (suc i) s → NoLater (f at) s
    against at below some before i within s h =
        elim (ℕ_discrete i at) [
          | yes e ↦ (each at below).first some s (rw e at h)
          | no other ↦
              elim (dec_le i at) [
                | yes earlier ↦ absurd ((each i within).nothing (before i (omega arith) (omega arith)) s h)
                | no later ↦ ahead at i (omega arith) (f at) s ((each at below).holds some) h
              ]
        ]

-- one place after another, in one stage
abbrev pub AtPlace : (σ p : ℕ) → (Refusal → Type 0) → Type 0
AtPlace σ p A = (s : Refusal) → A s → (stage s.number ≡ σ) × (s.place ≡ p)

pub when_place : (number place recipe : ℕ) {P : Type 0} → AtPlace (stage number) place (refused number place recipe when P)
when_place number place recipe s h = rw h.0 (refl, refl)

pub place_ahead : {σ p q : ℕ} {A B : Refusal → Type 0} → p < q → AtPlace σ p A → AtPlace σ q B → Ahead A B
place_ahead less here later s t h g =
    record {
      stages = omega (arith, (here s h).0, (later t g).0);
      places = λ _. omega (arith, (here s h).1, (later t g).1);
      numbers = λ _ same. absurd (omega (arith, (here s h).1, (later t g).1));
      recipes = λ _ same. absurd (omega (arith, (here s h).1, (later t g).1));
    }

-- one recipe after another, of one number and place
pub recipe_ahead : (number place : ℕ) {k m : ℕ} {P Q : Type 0} → k ≤ m →
    Ahead (refused number place k when P) (refused number place m when Q)
recipe_ahead number place less s t h g =
    rw (h.0, g.0)
    record { stages = omega arith; places = λ _. omega arith; numbers = λ _ _. omega arith; recipes = λ _ _. less }

-- one number after another, in one stage and place
pub rank_ahead : (a b place : ℕ) {k m : ℕ} {P Q : Type 0} → stage a ≡ stage b → rank a < rank b →
    Ahead (refused a place k when P) (refused b place m when Q)
rank_ahead a b place asked less s t h g =
    rw (h.0, g.0)
    record {
      stages = omega (arith, asked);
      places = λ _. omega arith;
      numbers = λ _ _. omega arith;
      recipes = λ same _. absurd (omega (arith, ap rank same));
    }

-- A stage by itself, at one place: the conditions of A have one rank ..
abbrev pub AtRank : (σ p ρ : ℕ) → (Refusal → Type 0) → Type 0
AtRank σ p ρ A = (s : Refusal) → A s → (stage s.number ≡ σ) × (s.place ≡ p) × (rank s.number ≡ ρ)

pub when_rank : (number place recipe : ℕ) {σ ρ : ℕ} {P : Type 0} → stage number ≡ σ → rank number ≡ ρ →
    AtRank σ place ρ (refused number place recipe when P)
when_rank number place recipe asked stands s h = rw h.0 (asked, refl, stands)

-- .. and those of an order have that rank or a later one
pub record FromRank (σ p ρ : ℕ) (B : Refusal → Type 0) (faults : List Refusal) : Type 0 where
  pub decides : FirstToHold B (first_of faults)
  pub within : (t : Refusal) → B t → (stage t.number ≡ σ) × (t.place ≡ p) × (ρ ≤ rank t.number)

module _ {σ p ρ : ℕ} {A : Refusal → Type 0} {a : Refusal} (one : FirstToHold A a) (at : AtRank σ p ρ A) where
  pub rank_last : FromRank σ p ρ A (a ∷ [])
  rank_last =
      record { decides = one_holds a one; within = λ t h. ((at t h).0, (at t h).1, omega (arith, (at t h).2)) }

  pub rank_more : {B : Refusal → Type 0} {faults : List Refusal} → FromRank σ p (suc ρ) B faults →
      FromRank σ p ρ (A or B) (a ∷ faults)
  unfolding first_of
  rank_more {B} {faults} rest =
      record {
        decides = or_holds a (first_of faults) one (λ _. rest.decides) (λ s t h g. before s t (at s h) (rest.within t g));
        within = λ t. ⊎_elim (λ h. ((at t h).0, (at t h).1, omega (arith, (at t h).2)))
            (λ h. ((rest.within t h).0, (rest.within t h).1, omega (arith, (rest.within t h).2)));
      }
    where
      before : (s t : Refusal) → (stage s.number ≡ σ) × (s.place ≡ p) × (rank s.number ≡ ρ) →
          (stage t.number ≡ σ) × (t.place ≡ p) × (suc ρ ≤ rank t.number) → NoLater s t
      before s t here later =
          record {
            stages = omega (arith, here.0, later.0);
            places = λ _. omega (arith, here.1, later.1);
            numbers = λ _ _. omega (arith, here.2, later.2);
            recipes = λ same _. absurd (omega (arith, here.2, later.2, ap rank same));
          }

-- one stage after another
abbrev pub UpToStage : ℕ → (Refusal → Type 0) → Type 0
UpToStage σ A = (s : Refusal) → A s → stage s.number ≤ σ

abbrev pub AfterStage : ℕ → (Refusal → Type 0) → Type 0
AfterStage σ B = (t : Refusal) → B t → σ < stage t.number

pub stage_ahead : {σ : ℕ} {A B : Refusal → Type 0} → UpToStage σ A → AfterStage σ B → Ahead A B
stage_ahead up after s t h g = earlier_stage s t (omega (arith, up s h, after t g))
