-- The station's run: document 01, "The run". Jobs are numbered from 1 in list order; `ready j` is job j's ready minute
-- and `minutes j` what it has to read. The log is defined from these, and everything else from the log.
use Rattle.std.specs.Prelude.{ℕ, zero, suc, ◌+◌, ◌-◌, ◌≤◌, Bool, cond, ◌&&◌, not, List, [], ◌∷◌, ◌++◌, take, ltb, leb, eqb}
use Rattle.edf.specs.declared.outcome.Outcome.{Outcome}
use Rattle.edf.specs.declared.outcome.Outcome.TheVariants.{SetAside, Finished, Unfinished}

-- how many entries of a log are j
unfoldable pub entries : ℕ → List ℕ → ℕ
entries j [] = 0
entries j (x ∷ xs) = cond (eqb x j) 1 0 + entries j xs

-- the minutes of job j that a log has not read
unfoldable pub minutes_left : (minutes : ℕ → ℕ) → List ℕ → ℕ → ℕ
minutes_left minutes log j = minutes j - entries j log

-- the first of two numbers that is not 0
abbrev pub first_some : ℕ → ℕ → ℕ
first_some zero b = b
first_some (suc a) b = suc a

-- "the first batch in list order that has s at or before this minute and minutes left to read", of jobs 1 to i; 0 for none
unfoldable pub first_pending : (ready left : ℕ → ℕ) → ℕ → ℕ → ℕ
first_pending ready left m zero = 0
first_pending ready left m (suc i) =
    first_some (first_pending ready left m i) (cond (leb (ready (suc i)) m && ltb 0 (left (suc i))) (suc i) 0)

-- the same of job k in parts, as a contract can promise it: it is one of jobs 1 to n, or 0; it has arrived and is not read to its
-- end; and it is the first such
pub record Reads (ready left : ℕ → ℕ) (m n k : ℕ) : Type 0 where
  pub within : k ≤ n
  pub arrived : 1 ≤ k → ready k ≤ m
  pub unread : 1 ≤ k → 1 ≤ left k
  pub first : (j : ℕ) → 1 ≤ j → j ≤ n → ready j ≤ m → 1 ≤ left j → (1 ≤ k) × (k ≤ j)

-- "Entry m of a lent log of bytes, from 0, is the position of the batch read in minute t + m, or 0 for an idle minute":
-- the log of w minutes from minute t, for jobs 1 to n
unfoldable pub log_of : (n : ℕ) (ready minutes : ℕ → ℕ) (t w : ℕ) → List ℕ
log_of n ready minutes t zero = []
log_of n ready minutes t (suc w) =
    log_of n ready minutes t w
    ++ (first_pending ready (minutes_left minutes (log_of n ready minutes t w)) (t + w) n ∷ [])

-- 01, "The words of demand 3": "A batch gets the minutes from t to c − 1 whose log entry is its position. A minute is before a
-- stretch ends if it is smaller than that end.": how many minutes before minute e a log that starts at minute t gives job j
unfoldable pub minutes_before : (e t : ℕ) → List ℕ → ℕ → ℕ
minutes_before e t log j = entries j (take (e - t) log)

-- "It answers the idle minutes."
unfoldable pub idle : List ℕ → ℕ
idle log = entries 0 log

-- "the minutes with an entry other than 0 that are the first or differ from the entry before", p being the entry before
unfoldable pub changes_after : ℕ → List ℕ → ℕ
changes_after p [] = 0
changes_after p (x ∷ xs) = cond (not (eqb x 0) && not (eqb x p)) 1 0 + changes_after x xs

-- the first minute counts as after an idle one
unfoldable pub changes : List ℕ → ℕ
changes log = changes_after 0 log

-- n entries up to the last of some kind, 0 for none, with one entry more before them, which is of that kind or not
abbrev one_more : Bool → ℕ → ℕ
one_more here zero = cond here 1 0
one_more here (suc n) = suc (suc n)

-- how many entries there are up to the last that is j; 0 if none is
unfoldable pub up_to_last : ℕ → List ℕ → ℕ
up_to_last j [] = 0
up_to_last j (x ∷ xs) = one_more (eqb x j) (up_to_last j xs)

-- "set aside; finished, with the minute after its last; unfinished, with the minutes left": of job j, which has m minutes to
-- read, after a log that starts at minute t
unfoldable pub outcome_of : (aside : Bool) (m t : ℕ) → List ℕ → ℕ → Outcome
outcome_of aside m t log j =
    cond aside SetAside (cond (leb m (entries j log)) (Finished (t + up_to_last j log)) (Unfinished (m - entries j log)))

-- the number of each case of an outcome, and the minute or the minutes that it names
unfoldable pub outcome_numbers : Outcome → List ℕ
outcome_numbers SetAside = 0 ∷ 0 ∷ []
outcome_numbers (Finished minute) = 1 ∷ minute ∷ []
outcome_numbers (Unfinished left) = 2 ∷ left ∷ []
