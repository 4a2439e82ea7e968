-- The first best of all choices, for any test and any value: every other choice that passes the test is of smaller value,
-- or ties with it and is higher. By the order in which the choices stand.
use Prim.Native.Nat.{ℕ, zero, suc, ◌≤◌, ◌<◌}
use native.Mathlib.Omega.{arith}
use native.Mathlib.Nat.{eq-or-lt_of_le}
use mathlib.Core.Path.{◌≡◌, refl, sym, ap, subst, ◌∙◌}
use mathlib.Core.Logic.{◌⊎◌, inl, inr, ⊎_elim}
use mathlib.Core.Bool.{Bool, true, false, cond, false≢true}
use mathlib.Core.List.{List, [], ◌∷◌, map}
use mathlib.Core.Option
use mathlib.Core.Option.{Option, none, some}
use lib.Dec.{ltb}
use borrow.Author.Tests.{ltb-true, ltb-false}
use Rattle.jobs.specs.declared.model.Job.{Job}
use Rattle.jobs.specs.Choice.{Valid, Higher, under, choices}
use Rattle.jobs.specs.Best.{greater, first_best}
use Rattle.jobs.proofs.FirstBest.{greater_none, first_best-append, first_best-map}

-- c is the choice ch itself, or is of smaller value, or ties with it and is higher
abbrev pub Behind : (List ℕ → ℕ) → List ℕ → List ℕ → Type 0
Behind v ch c = (c ≡ ch) ⊎ ((v c < v ch) ⊎ ((v c ≡ v ch) × Higher ch c))

-- ch is the first best of the choices In
pub record First (In : List ℕ → Type 0) (v : List ℕ → ℕ) (ch : List ℕ) : Type 0 where
  pub inside : In ch
  pub over : (c : List ℕ) → In c → Behind v ch c

-- an answer is the first best of the choices In, or there are none
abbrev pub Answer : (List ℕ → Type 0) → (List ℕ → ℕ) → Option (List ℕ) → Type 0
Answer In v none = (c : List ℕ) → In c → ⊥
Answer In v (some ch) = First In v ch

-- none behind it is of greater value
pub behind_le : (v : List ℕ → ℕ) (ch c : List ℕ) → Behind v ch c → v c ≤ v ch
behind_le v ch c (inl e) = omega (arith, ap v e)
behind_le v ch c (inr (inl h)) = omega arith
behind_le v ch c (inr (inr h)) = omega arith

-- the same choices, said another way
answer_same : (In In' : List ℕ → Type 0) (v : List ℕ → ℕ) (o : Option (List ℕ)) → ((c : List ℕ) → In' c → In c) →
    ((c : List ℕ) → In c → In' c) → Answer In v o → Answer In' v o
answer_same In In' v none from to h = λ c i. h c (from c i)
answer_same In In' v (some ch) from to h = record { inside = to ch h.inside; over = λ c i. h.over c (from c i) }

-- where there are no choices, the answer is none
pub answer_none : (In : List ℕ → Type 0) (v : List ℕ → ℕ) (o : Option (List ℕ)) → Answer In v o →
    ((c : List ℕ) → In c → ⊥) → o ≡ none
answer_none In v none h empty = refl
answer_none In v (some ch) h empty = absurd (empty ch h.inside)

-- the greater of two answers answers for both sets of choices, where the second set is the higher
module _ (P Q : List ℕ → Type 0) (v : List ℕ → ℕ) (order : (c d : List ℕ) → P c → Q d → Higher c d) where
  tied : (a c : List ℕ) → P a → Q c → (v c ≡ v a) ⊎ (v c < v a) → Behind v a c
  tied a c p q (inl e) = inr (inr (e, order a c p q))
  tied a c p q (inr h) = inr (inl h)

  cond_answer : (a b : List ℕ) (q : Bool) → ltb (v a) (v b) ≡ q → First P v a → First Q v b →
      Answer (λ c. P c ⊎ Q c) v (cond q (some b) (some a))
  cond_answer a b true e h k =
      record {
        inside = inr k.inside;
        over = λ c.
            ⊎_elim
            (λ i.
            let le : v c ≤ v a = behind_le v a c (h.over c i) in
            let lt : v a < v b = ltb-true _ _ e in
            inr (inl (omega arith)))
            (λ i. k.over c i);
      }
  cond_answer a b false e h k =
      record {
        inside = inl h.inside;
        over = λ c.
            ⊎_elim
            (λ i. h.over c i)
            (λ i.
            let le : v c ≤ v b = behind_le v b c (k.over c i) in
            let ge : v b ≤ v a = ltb-false _ _ e in
            tied a c h.inside i (eq-or-lt_of_le (omega arith)));
      }

  greater_answer : (a b : Option (List ℕ)) → Answer P v a → Answer Q v b → Answer (λ c. P c ⊎ Q c) v (greater v a b)
  greater_answer none b h k =
      answer_same Q (λ c. P c ⊎ Q c) v b (λ c. ⊎_elim (λ i. absurd (h c i)) (λ i. i)) (λ c i. inr i) k
  greater_answer (some a) none h k =
      answer_same P (λ c. P c ⊎ Q c) v (some a) (λ c. ⊎_elim (λ i. i) (λ i. absurd (k c i))) (λ c i. inl i) h
  greater_answer (some a) (some b) h k = cond_answer a b (ltb (v a) (v b)) refl h k

-- a choice of the jobs that passes a test
abbrev pub Candidate : (List ℕ → Bool) → List Job → List ℕ → Type 0
Candidate p js c = Valid js c × (p c ≡ true)

module _ (p : List ℕ → Bool) (v : List ℕ → ℕ) (js : List Job) where
  -- a choice that passes the test, by its version of the last job: one of R; version k; one of versions 1 to n
  abbrev Led : (ℕ → Type 0) → List ℕ → Type 0
  Led R [] = ⊥
  Led R (m ∷ ms) = R m × Valid js ms × (p (m ∷ ms) ≡ true)

  abbrev By : ℕ → List ℕ → Type 0
  By k = Led (λ m. m ≡ k)

  abbrev UpTo : ℕ → List ℕ → Type 0
  UpTo n = Led (λ m. (1 ≤ m) × (m ≤ n))

  up_to_order : (n : ℕ) (c d : List ℕ) → UpTo n c → By (suc n) d → Higher c d
  up_to_order n [] d i l = absurd i
  up_to_order n (k ∷ ks) [] i l = absurd l
  up_to_order n (k ∷ ks) (m ∷ ms) i l = inl (omega arith)

  up_to_more : (n : ℕ) (c : List ℕ) → UpTo n c ⊎ By (suc n) c → UpTo (suc n) c
  up_to_more n [] (inl i) = i
  up_to_more n [] (inr i) = i
  up_to_more n (m ∷ ms) (inl i) = ((i.0.0, omega arith), i.1, i.2)
  up_to_more n (m ∷ ms) (inr i) = (omega arith, i.1, i.2)

  up_to_split : (n : ℕ) (c : List ℕ) → UpTo (suc n) c → UpTo n c ⊎ By (suc n) c
  up_to_split n [] i = absurd i
  up_to_split n (m ∷ ms) i =
      ⊎_elim (λ e. inr (e, i.1, i.2)) (λ (l : m < suc n). inl ((i.0.0, omega arith), i.1, i.2)) (eq-or-lt_of_le i.0.1)

  by_rest : (k m : ℕ) (ms : List ℕ) → By k (m ∷ ms) → Candidate (λ c. p (k ∷ c)) js ms
  by_rest k m ms i = (i.1, subst (λ (n : ℕ). p (n ∷ ms) ≡ true) i.0 i.2)

  put_over : (k : ℕ) (ch ms : List ℕ) → Behind (λ c. v (k ∷ c)) ch ms → Behind v (k ∷ ch) (k ∷ ms)
  put_over k ch ms (inl e) = inl (ap (λ (c : List ℕ). k ∷ c) e)
  put_over k ch ms (inr (inl h)) = inr (inl h)
  put_over k ch ms (inr (inr h)) = inr (inr (h.0, inr (refl, h.1)))

  -- version k put before an answer for the jobs before
  map_answer : (k : ℕ) (o : Option (List ℕ)) → Answer (Candidate (λ c. p (k ∷ c)) js) (λ c. v (k ∷ c)) o →
      Answer (By k) v (Option.map (λ (c : List ℕ). k ∷ c) o)
  map_answer k none h = elim [ [] ↦ λ i. i | m ∷ ms ↦ λ i. h ms (by_rest k m ms i) ]
  map_answer k (some ch) h =
      record {
        inside = (refl, h.inside.0, h.inside.1);
        over = elim [
          | [] ↦ λ i. absurd i
          | m ∷ ms ↦ λ i.
              subst (λ (n : ℕ). Behind v (k ∷ ch) (n ∷ ms)) (sym i.0) (put_over k ch ms (h.over ms (by_rest k m ms i)))
        ];
      }

  -- what holds of the jobs before, for any test and any value, gives each version, and versions 1 to n, of the last job
  module _ (before : (q : List ℕ → Bool) (w : List ℕ → ℕ) → Answer (Candidate q js) w (first_best q w (choices js))) where
    by_answer : (k : ℕ) → Answer (By k) v (first_best p v (map (λ (c : List ℕ). k ∷ c) (choices js)))
    by_answer k =
        let q : List ℕ → Bool = λ c. p (k ∷ c) in
        let w : List ℕ → ℕ = λ c. v (k ∷ c) in
        rw (first_best-map q p w v (λ c. k ∷ c) (λ c. refl) (λ a b. refl) (choices js))
        (map_answer k (first_best q w (choices js)) (before q w))

    up_to_answer : (n : ℕ) → Answer (UpTo n) v (first_best p v (under n (choices js)))
    up_to_answer zero = elim [ [] ↦ λ i. i | m ∷ ms ↦ λ i. omega arith ]
    up_to_answer (suc n) =
        let lower = under n (choices js) in
        let top = map (λ (c : List ℕ). suc n ∷ c) (choices js) in
        answer_same (λ c. UpTo n c ⊎ By (suc n) c) (UpTo (suc n)) v (first_best p v (under (suc n) (choices js)))
        (up_to_split n) (up_to_more n)
        (rw (first_best-append p v lower top)
        (greater_answer (UpTo n) (By (suc n)) v (up_to_order n) (first_best p v lower) (first_best p v top)
        (up_to_answer n) (by_answer (suc n))))

  candidate_led : (j : Job) (c : List ℕ) → Candidate p (j ∷ js) c → UpTo j.count c
  candidate_led j [] i = i.0
  candidate_led j (m ∷ ms) i = ((i.0.0, i.0.1), i.0.2, i.1)

  led_candidate : (j : Job) (c : List ℕ) → UpTo j.count c → Candidate p (j ∷ js) c
  led_candidate j [] i = absurd i
  led_candidate j (m ∷ ms) i = ((i.0.0, i.0.1, i.1), i.2)

-- of no jobs there is one choice, the empty one
empty_answer : (p : List ℕ → Bool) (v : List ℕ → ℕ) (q : Bool) → p [] ≡ q → Answer (Candidate p []) v (cond q (some []) none)
empty_answer p v true e =
    record { inside = (tt, e); over = elim [ [] ↦ λ i. inl refl | k ∷ ks ↦ λ i. absurd i.0 ] }
empty_answer p v false e = elim [ [] ↦ λ i. false≢true (sym e ∙ i.1) | k ∷ ks ↦ λ i. i.0 ]

-- the law
pub first_answer : (js : List Job) (p : List ℕ → Bool) (v : List ℕ → ℕ) → Answer (Candidate p js) v (first_best p v (choices js))
first_answer [] p v = rw (greater_none v) (empty_answer p v (p []) refl)
first_answer (j ∷ js) p v =
    answer_same (UpTo p v js j.count) (Candidate p (j ∷ js)) v (first_best p v (choices (j ∷ js)))
    (candidate_led p v js j) (led_candidate p v js j)
    (up_to_answer p v js (first_answer js) j.count)
