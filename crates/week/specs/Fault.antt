-- The errors of the code, and the numbers that document 01 gives them: "An answer may be an enum. In that case, a definition gives this paper's
-- number and values for each of the enum's cases, and the promises use that definition."
use Rattle.std.specs.Prelude.{ℕ, ◌≡◌, Result, Ok, Err}
use Rattle.week.specs.declared.refusal.Reason.{Reason}
use Rattle.week.specs.declared.refusal.Reason.TheVariants as reason
use Rattle.week.specs.declared.refusal.Fault.{Fault}
use Rattle.week.specs.declared.refusal.Refusal.{Refusal}
use Rattle.week.specs.Refusal.{accepted, refused}

abbrev pub number_of : Reason → ℕ
number_of reason.ClosesTooSoon = 1
number_of reason.LastsTooLong = 2
number_of reason.TooManyBatches = 3
number_of reason.RecipeCount = 4
number_of reason.DueTooSoon = 5
number_of reason.ArrivesTooLate = 6
number_of reason.CostRises = 7
number_of reason.WorthWithoutCost = 8
number_of reason.NumberTaken = 9
number_of reason.ShortTable = 11
number_of reason.ShortLog = 12
number_of reason.NoSuchChoice = 13
number_of reason.ShortBuffer = 19
number_of reason.NoPlan = 14
number_of reason.BreaksTheRule = 15
number_of reason.NoFrame = 16
number_of reason.MisplacedFrame = 17
number_of reason.LongSheet = 18
number_of reason.FullBook = 20
number_of reason.NumberNotHeld = 21

abbrev pub fault_at : Reason → ℕ → ℕ → Fault
fault_at reason place recipe = record { reason = reason; place = place; recipe = recipe }

-- a fault in a place
abbrev pub place_in : ℕ → Fault → Fault
place_in place fault = fault_at fault.reason place fault.recipe

-- "An answer of refusal is three numbers: its own, a place and a recipe."
abbrev pub numbers : Fault → Refusal
numbers fault = refused (number_of fault.reason) fault.place fault.recipe

abbrev pub AnsweredAs : Fault → Refusal → Type 0
AnsweredAs fault refusal = refusal ≡ numbers fault

-- what refuses, of what was refused or not
abbrev pub refusal_of : {A : Type 0} → Result A Fault → Refusal
refusal_of (Ok x) = accepted
refusal_of (Err fault) = numbers fault
