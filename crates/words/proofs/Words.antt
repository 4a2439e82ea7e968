-- What the words of a line are.
use Prim.Native.Nat.{ℕ, suc, ◌≤◌, ◌<◌}
use native.Mathlib.Decide.{ℕ_discrete}
use native.Mathlib.Omega.{arith}
use mathlib.Core.Path.{◌≡◌, refl, sym, ap, ◌∙◌}
use mathlib.Core.List.{List, [], ◌∷◌, ◌++◌}
use lib.ListN.{length}
use borrow.Author.Tests.{eq-eqb, ne_eqb}
use Rattle.arrays.specs.Each.{All}
use Rattle.arrays.specs.Text.{space}
use Rattle.text.specs.Line.{spaced}
use Rattle.words.specs.Word.{joined, parts_of, some_bytes, words_of, Unbroken, IsWord}

-- a space ends a part, and any other byte is the first of one
parts_space : (b : ℕ) (bs : List ℕ) → b ≡ space → parts_of (b ∷ bs) ≡ [] ∷ parts_of bs
unfolding parts_of
parts_space b bs e = rw (eq-eqb _ _ e)

parts_other : (b : ℕ) (bs : List ℕ) → (b ≡ space → ⊥) → parts_of (b ∷ bs) ≡ joined b (parts_of bs)
unfolding parts_of
parts_other b bs n = rw (ne_eqb _ _ n)

-- so a space at the front is passed over
pub words_space : (b : ℕ) (bs : List ℕ) → b ≡ space → words_of (b ∷ bs) ≡ words_of bs
unfolding words_of some_bytes
words_space b bs e = ap some_bytes (parts_space b bs e)

-- no bytes, or bytes that start with a space
pub record Cut (bytes : List ℕ) : Type 0 where
  pub others : List (List ℕ)
  pub parts : parts_of bytes ≡ [] ∷ others

pub cut_end : Cut []
unfolding parts_of
cut_end = record { others = []; parts = refl }

pub cut_space : (b : ℕ) (bs : List ℕ) → b ≡ space → Cut (b ∷ bs)
cut_space b bs e = record { others = parts_of bs; parts = parts_space b bs e }

-- what stands before them without a space is a part of its own, and so a word
part_first : (bytes after : List ℕ) (rest : Cut after) → Unbroken bytes → parts_of (bytes ++ after) ≡ bytes ∷ rest.others
unfolding joined
part_first [] after rest whole = rest.parts
part_first (b ∷ bs) after rest whole =
    parts_other b (bs ++ after) whole.0 ∙ ap (joined b) (part_first bs after rest whole.1)

some_kept : (part : List ℕ) (parts : List (List ℕ)) → 0 < length part → some_bytes (part ∷ parts) ≡ part ∷ some_bytes parts
unfolding some_bytes
some_kept [] parts some = absurd (omega arith)
some_kept (b ∷ bs) parts some = refl

pub word_first : (word after : List ℕ) → IsWord word → Cut after → words_of (word ++ after) ≡ word ∷ words_of after
unfolding words_of some_bytes
word_first word after is rest =
    ap some_bytes (part_first word after rest is.whole)
    ∙ some_kept word rest.others is.some
    ∙ ap (λ (parts : List (List ℕ)). word ∷ some_bytes parts) (sym rest.parts)

-- words with a space before each of the others are the words of their line
spaced_cut : (words : List (List ℕ)) → Cut (spaced words)
unfolding spaced
spaced_cut [] = cut_end
spaced_cut (word ∷ words) = cut_space space (word ++ spaced words) refl

pub words_spaced : (first : List ℕ) (words : List (List ℕ)) → IsWord first → All IsWord words →
    words_of (first ++ spaced words) ≡ first ∷ words
unfolding spaced words_of parts_of some_bytes
words_spaced first [] one all = word_first first [] one cut_end
words_spaced first (second ∷ words) one all =
    word_first first (spaced (second ∷ words)) one (spaced_cut (second ∷ words))
    ∙ ap (λ (l : List (List ℕ)). first ∷ l)
    (words_space space (second ++ spaced words) refl ∙ words_spaced second words all.0 all.1)

-- no word is empty, or has a space in it
joined_unbroken : (b : ℕ) (parts : List (List ℕ)) → (b ≡ space → ⊥) → All Unbroken parts → All Unbroken (joined b parts)
unfolding joined
joined_unbroken b [] n all = ((n, tt), tt)
joined_unbroken b (part ∷ parts) n all = ((n, all.0), all.1)

parts_unbroken : (line : List ℕ) → All Unbroken (parts_of line)
unfolding parts_of
parts_unbroken [] = (tt, tt)
parts_unbroken (b ∷ bs) =
    elim (ℕ_discrete b space) [
      | yes e ↦ rw (eq-eqb b space e) (tt, parts_unbroken bs)
      | no n ↦ rw (ne_eqb b space n) (joined_unbroken b (parts_of bs) n (parts_unbroken bs))
    ]

some_words : (parts : List (List ℕ)) → All Unbroken parts → All IsWord (some_bytes parts)
unfolding some_bytes
some_words [] all = tt
some_words ([] ∷ parts) all = some_words parts all.1
some_words ((b ∷ bs) ∷ parts) all = (record { some = omega arith; whole = all.0 }, some_words parts all.1)

pub words_are : (line : List ℕ) → All IsWord (words_of line)
unfolding words_of
words_are line = some_words (parts_of line) (parts_unbroken line)

-- a line has at most as many words as bytes
joined_few : (b : ℕ) (parts : List (List ℕ)) → length (some_bytes (joined b parts)) ≤ suc (length (some_bytes parts))
unfolding joined some_bytes
joined_few b [] = omega arith
joined_few b ([] ∷ parts) = omega arith
joined_few b ((c ∷ cs) ∷ parts) = omega arith

pub words_few : (line : List ℕ) → length (words_of line) ≤ length line
unfolding words_of parts_of some_bytes
words_few [] = omega arith
words_few (b ∷ bs) =
    elim (ℕ_discrete b space) [
      | yes e ↦ rw (eq-eqb b space e) (omega (arith, words_few bs))
      | no n ↦ rw (ne_eqb b space n) (omega (arith, joined_few b (parts_of bs), words_few bs))
    ]
