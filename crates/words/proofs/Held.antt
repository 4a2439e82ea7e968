-- What is held of a line that comes in pieces: the first 4,097 of its bytes, wherever it is cut.
use Prim.Native.Nat.{ℕ, zero, suc, ◌+◌, ◌-◌, min}
use native.Mathlib.Omega.{arith}
use mathlib.Core.Path.{◌≡◌, refl, sym, ap, ◌∙◌}
use mathlib.Core.Bool.{Bool, true, false, cond, true≢false}
use mathlib.Core.List.{List, [], ◌∷◌, ◌++◌, append_assoc}
use lib.ListN.{length, take, drop, set, replicate, length-take, length-set, length-replicate, take-append-drop}
use lib.Seq.{take_at, take-suc-set, drop-set-lt}
use lib.Dec.{eqb}
use Rattle.std.proofs.lemmas.List.{take_min}
use borrow.Author.Tests.{lt-ltb, le-ltb}
use Rattle.arrays.specs.Made.{padded}
use Rattle.arrays.specs.Text.{line_feed}
use Rattle.arrays.proofs.Places.{drop-replicate}
use Rattle.words.specs.declared.line.Line.{Line}
use Rattle.words.specs.Line.{held, no_line, with_byte, with_bytes, before_feed, has_feed, extended_by}

-- the bytes of two pieces are those of the two put together
pub bytes_together : (line : Line) (xs ys : List ℕ) → with_bytes (with_bytes line xs) ys ≡ with_bytes line (xs ++ ys)
unfolding with_bytes
bytes_together line [] ys = refl
bytes_together line (x ∷ xs) ys = bytes_together (with_byte line x) xs ys

-- and if the first has no line feed, the line of the two is the line of the two put together, and ends with it
neither : (q r : Bool) → cond q true r ≡ false → (q ≡ false) × (r ≡ false)
neither true r e = absurd (true≢false e)
neither false r e = (refl, e)

no_feed : (b : ℕ) (bs : List ℕ) → has_feed (b ∷ bs) ≡ false → (eqb b line_feed ≡ false) × (has_feed bs ≡ false)
unfolding has_feed
no_feed b bs none = neither (eqb b line_feed) (has_feed bs) none

before_together : (xs ys : List ℕ) → has_feed xs ≡ false → before_feed (xs ++ ys) ≡ before_feed xs ++ before_feed ys
unfolding before_feed
before_together [] ys none = refl
before_together (x ∷ xs) ys none =
    let both = no_feed x xs none in
    rw both.0 (ap (λ (l : List ℕ). x ∷ l) (before_together xs ys both.1))

feed_together : (xs ys : List ℕ) → has_feed xs ≡ false → has_feed (xs ++ ys) ≡ has_feed ys
unfolding has_feed
feed_together [] ys none = refl
feed_together (x ∷ xs) ys none = let both = no_feed x xs none in rw both.0 (feed_together xs ys both.1)

module _ (line : Line) (xs ys : List ℕ) (unended : (extended_by line xs 0).ended ≡ false) where
  pub line_together : (extended_by (extended_by line xs 0).line ys 0).line ≡ (extended_by line (xs ++ ys) 0).line
  unfolding extended_by
  line_together =
      bytes_together line (before_feed xs) (before_feed ys) ∙ ap (with_bytes line) (sym (before_together xs ys unended))

  pub ended_together : (extended_by (extended_by line xs 0).line ys 0).ended ≡ (extended_by line (xs ++ ys) 0).ended
  unfolding extended_by
  ended_together = sym (feed_together xs ys unended)

-- the bytes that there is room for, at once
pub bytes_at_once : (bytes bs : List ℕ) (len at n : ℕ) → length bytes ≡ held → at ≡ min len held → n ≡ min (length bs) (held - at) →
    with_bytes (record { bytes = bytes; len = len }) bs
    ≡ record { bytes = take at bytes ++ (take n bs ++ drop (at + n) bytes); len = len + n }
unfolding with_byte with_bytes
bytes_at_once bytes [] len at n size is fits =
    let none : n ≡ 0 = omega arith in
    let here : at + 0 ≡ at = omega arith in
    let same : len + 0 ≡ len = omega arith in
    rw (none, here, same, take-append-drop at bytes)
bytes_at_once bytes (b ∷ bs) len at zero size is fits =
    rw (le-ltb len held (omega arith), bytes_at_once bytes bs len at zero size is (omega arith))
bytes_at_once bytes (b ∷ bs) len at (suc n) size is fits =
    let here : at ≡ len = omega arith in
    let further : len + suc n ≡ suc len + n = omega arith in
    rw (
      lt-ltb len held (omega arith),
      bytes_at_once (set bytes len b) bs (suc len) (suc len) n (length-set bytes len b ∙ size) (omega arith) (omega arith),
      take-suc-set bytes len b (omega arith),
      drop-set-lt (suc len + n) bytes len b (omega arith),
      append_assoc,
      here,
      further,
    )

-- the line that holds the first of some bytes
abbrev pub holding : List ℕ → Line
holding bs = record { bytes = padded held 0 (take held bs); len = length (take held bs) }

-- of a line that began empty
pub held_first : (bs : List ℕ) → with_bytes no_line bs ≡ holding bs
held_first bs =
    let n = min held (length bs) in
    let all : 0 + n ≡ n = omega arith in
    rw (
      bytes_at_once (replicate held 0) bs 0 0 n (length-replicate {A = ℕ} held 0) (omega arith) (omega arith),
      all,
      drop-replicate {A = ℕ} n held 0 (omega arith),
      length-take held bs,
      take_min held bs,
    )

-- its first `len` bytes are those
pub held_bytes : (bs : List ℕ) → let line = with_bytes no_line bs in take line.len line.bytes ≡ take held bs
held_bytes bs = rw (held_first bs) (take_at (take held bs) _ (length (take held bs)) refl)
