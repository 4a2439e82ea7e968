-- The name of a word, looked for among the names from the first to the last.
use Prim.Native.Nat.{ℕ}
use mathlib.Core.Path.{◌≡◌, refl, sym, ◌∙◌}
use mathlib.Core.Bool.{Bool, true, false}
use mathlib.Core.List.{List, [], ◌∷◌}
use Rattle.std.specs.Prelude.{None, Some}
use Rattle.std.specs.Str.{bytes_eq}
use Rattle.command.specs.declared.name.Name.{Name}
use Rattle.command.specs.Name.{names, name_among, name_of}

-- those before `left` are not the word's
pub record Past (word : List ℕ) (left : List (List ℕ × Name)) : Type 0 where
  pub among : name_of word ≡ name_among left word

pub past_none : (word : List ℕ) → Past word names
unfolding name_of
past_none word = record { among = refl }

-- a test of the first that is left
module _ {word : List ℕ} {entry : List ℕ × Name} {left : List (List ℕ × Name)} (h : Past word (entry ∷ left)) where
  pub past_more : {test : Bool} → test ≡ bytes_eq word entry.0 → test ≡ false → Past word left
  unfolding name_among
  past_more e fails = record { among = h.among ∙ rw (sym e ∙ fails) }

  pub past_here : {test : Bool} → test ≡ bytes_eq word entry.0 → test ≡ true → Some entry.1 ≡ name_of word
  unfolding name_among
  past_here e holds = sym (h.among ∙ rw (sym e ∙ holds))

pub past_all : {word : List ℕ} → Past word [] → None ≡ name_of word
unfolding name_among
past_all h = sym h.among
