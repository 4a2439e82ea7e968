-- A choice by its recipes, and what there is where a test holds.
use Rattle.std.specs.Prelude.{ℕ, Bool, cond, Option, None, Some, List}
use Rattle.command.specs.declared.command.Choice.{Choice}

-- the choice of some recipes
abbrev pub choice_of : List ℕ → Choice
choice_of recipes = record { recipes = recipes }

-- a value where a test holds; none where it does not
abbrev pub some_if : {A : Type 0} → Bool → A → Option A
some_if test a = cond test (Some a) None
