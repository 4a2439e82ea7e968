-- An array that a loop goes through from its back, each entry with its index: what is left before each turn is its front.
use Prim.Native.Nat.{ℕ, suc}
use native.Mathlib.Omega.{arith}
use mathlib.Core.Path.{◌≡◌, sym, ap, ◌∙◌}
use mathlib.Core.List.{List, [], ◌∷◌}
use lib.ListN.{length, get_or, take, length-append}
use lib.Seq.{length-take-le, get_or-take, take-take, take-append_seam, get_or-append_seam}
use Rattle.std.proofs.Common.{Some, Bor, ◌≤◌}
use Rattle.std.specs.declared.iter.Rev.{Rev}
use Rattle.std.specs.declared.iter.Enumerate.{Enumerate}
use Rattle.std.specs.declared.slice.Iter.{Iter}
use Rattle.std.specs.Slice.Iter.{iter_rest, iter_steps_back}
use Rattle.std.specs.Iterator.Adapters.{rev_source, rev_steps, enumerate_source, enumerate_count, enumerate_steps_back}

-- `xs.iter().enumerate().rev()`, and what it has left
abbrev pub Turns : Type 0 → Type 0
Turns A = Rev (Enumerate (Iter A))

module _ {A : Type 0} where
  abbrev pub left : Turns A → List A
  left s = iter_rest (enumerate_source (rev_source s))

  pub record Back (xs : List A) (s : Turns A) : Type 0 where
    pub counted : enumerate_count (rev_source s) ≡ 0
    pub front : left s ≡ take (length (left s)) xs

  -- at the start the first n entries are left
  pub back_start : (xs : List A) (n : ℕ) (s : Turns A) → n ≤ length xs → enumerate_count (rev_source s) ≡ 0 → left s ≡ take n xs →
      Back xs s × (length (left s) ≡ n)
  back_start xs n s most counted first =
      let whole : length (left s) ≡ n = ap length first ∙ length-take-le n xs most in
      (record { counted = counted; front = first ∙ ap (λ (k : ℕ). take k xs) (sym whole) }, whole)

  -- an entry of it is taken, the last that is left
  pub record Turn (d : A) (xs : List A) (s t : Turns A) (i : ℕ) (x : Bor A) : Type 0 where
    pub before : length (left s) ≡ suc i
    pub after : length (left t) ≡ i
    pub entry : x.now ≡ get_or xs i d
    pub back : Back xs t

  pub back_step : (d : A) (xs : List A) {s : Turns A} (t : Turns A) {i : ℕ} (x : Bor A) → Back xs s →
      rev_steps (enumerate_steps_back iter_steps_back (λ (u : Iter A). length (iter_rest u))) s (Some (i, x)) t → Turn d xs s t i x
  back_step d xs {s} t {i} x h step =
      let after : length (left t) ≡ i = omega (arith, step.1.1, h.counted) in
      let before : length (left s) ≡ suc i = ap length step.1.0 ∙ length-append (left t) (x.now ∷ []) ∙ omega (arith, after) in
      let whole = sym step.1.0 ∙ h.front ∙ ap (λ (k : ℕ). take k xs) before in
      record {
        before = before;
        after = after;
        entry =
            sym (get_or-append_seam (left t) x.now [] d)
            ∙ ap (λ (ys : List A). get_or ys (length (left t)) d) whole
            ∙ ap (λ (k : ℕ). get_or (take (suc i) xs) k d) after
            ∙ get_or-take (suc i) xs i d (omega arith);
        back = record {
          counted = step.0 ∙ h.counted;
          front =
              sym (take-append_seam (left t) (x.now ∷ []))
              ∙ ap (take (length (left t))) whole
              ∙ take-take (length (left t)) (suc i) xs (omega (arith, after));
        };
      }
