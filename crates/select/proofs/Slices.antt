-- A part of a list: its entries, and the list where the part is changed throughout and put back in its place.
use Prim.Native.Nat.{ℕ, ◌+◌, ◌-◌, ◌≤◌, ◌<◌}
use native.Mathlib.Decide.{dec_lt}
use native.Mathlib.Omega.{arith}
use mathlib.Core.Path.{◌≡◌, ap, ◌∙◌}
use mathlib.Core.List.{List, ◌++◌}
use lib.ListN.{length, get_or, take, drop, length-append, length-take, length-drop, get_or-append}
use lib.Seq.{length-take-le}
use Rattle.std.proofs.lemmas.List.{get_or-take, get_or-drop, get_or-append_right}
use Rattle.arrays.specs.Patched.{Patched}

-- an entry of the first n
pub front_at : {A : Type 0} (d : A) (n : ℕ) (xs : List A) (i : ℕ) → i < length (take n xs) →
    (i < n) × (get_or (take n xs) i d ≡ get_or xs i d)
front_at d n xs i low =
    let early : i < n = omega (arith, length-take n xs) in
    (early, get_or-take n xs i d early)

-- an entry of the k entries from a on
pub part_at : (a k : ℕ) (xs : List ℕ) (i : ℕ) → i < k → get_or (take k (drop a xs)) i 0 ≡ get_or xs (a + i) 0
part_at a k xs i low = get_or-take k (drop a xs) i 0 low ∙ get_or-drop a xs i 0

-- the part has h, which is g from a on
pub patched_part : {h g : ℕ → ℕ} {a b : ℕ} {old part : List ℕ} → a ≤ b → b ≤ length old →
    Patched h 0 (length (take (b - a) (drop a old))) (take (b - a) (drop a old)) part → ((i : ℕ) → i < b - a → h i ≡ g (a + i)) →
    Patched g a b old (take a old ++ (part ++ drop (b - a) (drop a old)))
patched_part {h} {g} {a} {b} {old} {part} from to p same =
    record {
      size = simp (length-append, length-take, length-drop) (omega (arith, long));
      done = λ m l u.
          rw (at_part m l u, p.done (m - a) (omega arith) (omega (arith, lent)))
          (same (m - a) (omega arith) ∙ ap g (within m l));
      kept = λ m out.
          elim (dec_lt m a) [
            | yes l ↦
                get_or-append (take a old) (part ++ drop (b - a) (drop a old)) 0 m (omega (arith, front)) ∙ get_or-take a old m 0 l
            | no l ↦ elim (dec_lt m b) [ yes u ↦ absurd (out (omega arith, u)) | no u ↦ after m (omega arith) ]
          ];
    }
  where
    front : length (take a old) ≡ a
    front = length-take-le a old (omega arith)

    lent : length (take (b - a) (drop a old)) ≡ b - a
    lent = length-take-le (b - a) (drop a old) (omega (arith, length-drop a old))

    long : length part ≡ b - a
    long = p.size ∙ lent

    within : (m : ℕ) → a ≤ m → a + (m - a) ≡ m
    within m l = omega arith

    at_part : (m : ℕ) → a ≤ m → m < b → get_or (take a old ++ (part ++ drop (b - a) (drop a old))) m 0 ≡ get_or part (m - a) 0
    at_part m l u =
        get_or-append_right (take a old) (part ++ drop (b - a) (drop a old)) a m 0 front l
        ∙ get_or-append part (drop (b - a) (drop a old)) 0 (m - a) (omega (arith, long))

    after : (m : ℕ) → b ≤ m → get_or (take a old ++ (part ++ drop (b - a) (drop a old))) m 0 ≡ get_or old m 0
    after m l =
        let place : a + ((b - a) + ((m - a) - (b - a))) ≡ m = omega arith in
        get_or-append_right (take a old) (part ++ drop (b - a) (drop a old)) a m 0 front (omega arith)
        ∙ get_or-append_right part (drop (b - a) (drop a old)) (b - a) (m - a) 0 long (omega arith)
        ∙ get_or-drop (b - a) (drop a old) ((m - a) - (b - a)) 0
        ∙ get_or-drop a old ((b - a) + ((m - a) - (b - a))) 0
        ∙ ap (λ (n : ℕ). get_or old n 0) place
