-- Where a line of a sheet ends.
use Prim.Native.Nat.{ℕ, zero, suc, ◌+◌, ◌≤◌, ◌<◌, min}
use native.Mathlib.Decide.{ℕ_discrete, dec_lt}
use native.Mathlib.Omega.{arith}
use mathlib.Core.Bool.{Bool}
use mathlib.Core.Path.{◌≡◌, refl, sym, ap, subst, ◌∙◌}
use mathlib.Core.Logic.{◌↔◌}
use mathlib.Core.List.{List, [], ◌∷◌, ◌++◌, append-nil}
use lib.ListN.{length, get_or, take, drop, length-append}
use lib.Dec.{eqb}
use lib.Seq.{take_at, drop_at}
use borrow.Author.Tests.{eq-eqb, ne_eqb, eqb-true, eqb-false}
use denote.Param.Members.{Mut}
use denote.Ref.{Bor}
use Rattle.std.specs.Prelude.{Option, Some, MatchOption}
use Rattle.std.specs.Fn.{Called, ComputesKey}
use Rattle.std.specs.List.{IsFirstMatchOrLen}
use Rattle.std.specs.declared.slice.SplitInclusive.{SplitInclusive}
use Rattle.std.proofs.lemmas.Iterator.{YieldsList}
use Rattle.std.proofs.lemmas.Iterator.Consumers.{YieldsList-from_shown}
use Rattle.std.proofs.lemmas.Fn.{always_returns_same}
use Rattle.arrays.specs.Text.{line_feed}
use Rattle.sheet.specs.Line.{joined, lines_of}

-- a line feed is the last byte of its line
pub lines_feed : (b : ℕ) (bs : List ℕ) → b ≡ line_feed → lines_of (b ∷ bs) ≡ (b ∷ []) ∷ lines_of bs
lines_feed b bs e = simp (eq-eqb _ _ e)

-- any other stands before what is left of its line
pub lines_other : (b : ℕ) (bs : List ℕ) → (b ≡ line_feed → ⊥) → lines_of (b ∷ bs) ≡ joined b (lines_of bs)
lines_other b bs n = simp (ne_eqb _ _ n)

joined_some : (b : ℕ) (lines : List (List ℕ)) → 0 < length (joined b lines)
joined_some b [] = omega arith
joined_some b (line ∷ lines) = omega arith

some_lines : (b : ℕ) (bs : List ℕ) → 0 < length (lines_of (b ∷ bs))
some_lines b bs =
    elim (ℕ_discrete b line_feed) [
      | yes e ↦ rw (lines_feed b bs e) (omega arith)
      | no n ↦ rw (lines_other b bs n) (joined_some b (lines_of bs))
    ]

-- only an empty sheet has no line
pub lines_none : (s : List ℕ) → (length (lines_of s) ≡ 0) ↔ (length s ≡ 0)
lines_none [] = (λ e. refl, λ e. refl)
lines_none (b ∷ bs) = (λ e. absurd (omega (arith, some_lines b bs)), λ e. absurd (omega arith))

-- the first line ends with the first line feed ..
first_line : (n : ℕ) (bytes : List ℕ) → n < length bytes → ((k : ℕ) → k < n → get_or bytes k 0 ≡ line_feed → ⊥) →
    get_or bytes n 0 ≡ line_feed → lines_of bytes ≡ take (suc n) bytes ∷ lines_of (drop (suc n) bytes)
first_line n [] within none e = absurd (omega arith)
first_line zero (b ∷ bs) within none e = lines_feed b bs e
first_line (suc n) (b ∷ bs) within none e =
    lines_other b bs (none 0 (omega arith))
    ∙ ap (joined b) (first_line n bs (omega arith) (λ k l. none (suc k) (omega arith)) e)

-- .. and is the last one where there is none
last_line : (bytes : List ℕ) → 0 < length bytes → ((k : ℕ) → k < length bytes → get_or bytes k 0 ≡ line_feed → ⊥) →
    lines_of bytes ≡ bytes ∷ []
last_line [] some none = absurd (omega arith)
last_line (b ∷ []) some none = lines_other b [] (none 0 (omega arith))
last_line (b ∷ c ∷ bs) some none =
    lines_other b (c ∷ bs) (none 0 (omega arith))
    ∙ ap (joined b) (last_line (c ∷ bs) (omega arith) (λ k l. none (suc k) (omega arith)))

abbrev pub is_feed : ℕ → Bool
is_feed b = eqb b line_feed

-- a part as long as the whole is the whole
all_line : (line rest : List ℕ) → length (line ++ rest) ≤ length line → (line ++ rest ≡ line) × (rest ≡ [])
all_line line [] all = (append-nil line, refl)
all_line line (b ∷ bs) all = absurd (omega (arith, length-append line (b ∷ bs)))

-- what is cut off after the first line feed, or as a whole where there is none, is the first line, and what is left has the others
first_cut : {left line : List ℕ} (rest : List ℕ) → left ≡ line ++ rest → (i : ℕ) → length line ≡ min (i + 1) (length left) →
    IsFirstMatchOrLen is_feed left i → 0 < length left → lines_of left ≡ line ∷ lines_of rest
first_cut {left} {line} rest cut i size at some =
    elim (dec_lt i (length left)) [
      | yes found ↦
          let end : length line ≡ suc i = omega arith in
          first_line i left found (λ k l. eqb-false _ _ (at.0 k 0 (omega arith) l)) (eqb-true _ _ (at.1 found 0))
          ∙ rw (cut, take_at line rest (suc i) end, drop_at line rest (suc i) end)
      | no none ↦
          let all = all_line line rest (omega (arith, ap length cut)) in
          last_line left some (λ k l. eqb-false _ _ (at.0 k 0 (omega arith) (omega arith)))
          ∙ rw (cut, all.0, all.1)
    ]

-- what a turn of `split_inclusive` gives, where its test is whether a byte is a line feed
pub next_line : {F : Type 0} (g : Mut F (Bor ℕ × Unit {0}) Bool) (f f' : F) {left line : List ℕ} (rest : List ℕ) →
    (left ≡ line ++ rest)
    × ((i : ℕ)
    × (length line ≡ min (i + 1) (length left))
    × ((p : ℕ → Bool) → ComputesKey g p f → ComputesKey g p f' × IsFirstMatchOrLen p left i))
    × (0 < length left) →
    ((a : Bor ℕ × Unit {0}) (r : Bool) (q : F) → Called g f a r q → (r ≡ is_feed a.0.now) × (q ≡ f)) →
    lines_of left ≡ line ∷ lines_of rest
next_line g f f' rest (cut, (i, size, at), some) key =
    first_cut rest cut i size (at is_feed (always_returns_same g (λ a r. r ≡ is_feed a.0.now) f key)).1 some

-- so all its turns give the lines
module _ {F : Type 0} (g : Mut F (Bor ℕ × Unit {0}) Bool) where
  abbrev pub line_steps : SplitInclusive ℕ F → Option (Bor (List ℕ)) → SplitInclusive ℕ F → Type 0
  line_steps s r t =
      MatchOption r ((length s.rest.now ≡ 0) × (t ≡ s)) (
      λ x. (s.rest.now ≡ x.now ++ t.rest.now)
      × ((i : ℕ)
      × (length x.now ≡ min (i + 1) (length s.rest.now))
      × ((p : ℕ → Bool) → ComputesKey g p s.pred → ComputesKey g p t.pred × IsFirstMatchOrLen p s.rest.now i))
      × (0 < length s.rest.now)
      )

  pub lines_yielded : {s : SplitInclusive ℕ F} →
      ((f : F) (a : Bor ℕ × Unit {0}) (r : Bool) (q : F) → Called g f a r q → (r ≡ is_feed a.0.now) × (q ≡ f)) →
      YieldsList line_steps (λ y. y.now) s (lines_of s.rest.now)
  lines_yielded {s} key =
      YieldsList-from_shown line_steps (λ y. y.now) (λ u. lines_of u.rest.now) (λ u t over. (lines_none _).1 over.0)
      (λ u x t turn. next_line g _ _ _ turn (key u.pred)) s

  -- and the first turn gives the first line
  pub first_next : (s t : SplitInclusive ℕ F) {r : Option (Bor (List ℕ))} {line : Bor (List ℕ)} {sheet : List ℕ} →
      s.rest.now ≡ sheet → r ≡ Some line → line_steps s r t →
      ((a : Bor ℕ × Unit {0}) (b : Bool) (q : F) → Called g s.pred a b q → (b ≡ is_feed a.0.now) × (q ≡ s.pred)) →
      lines_of sheet ≡ line.now ∷ lines_of t.rest.now
  first_next s t {line = line} rest is turn key =
      ap lines_of (sym rest) ∙ next_line g _ _ t.rest.now (subst (λ (o : Option (Bor (List ℕ))). line_steps s o t) is turn) key
