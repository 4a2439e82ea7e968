-- The table, job by job: what holds of its rows and of the scores after the first i jobs.
use Prim.Native.Nat.{ℕ, ◌+◌, ◌*◌, ◌≤◌, ◌<◌}
use native.Mathlib.Nat.{mul-le-mul_left, mul-le-mul_right}
use native.Mathlib.Numerals.{add-one}
use native.Mathlib.Omega.{arith}
use mathlib.Core.Path.{◌≡◌, refl, sym, ap, ◌∙◌}
use mathlib.Core.List.{List, [], ◌∷◌, ◌++◌}
use lib.Seq.{take_at}
use lib.ListN.{length, get_or, take, drop, replicate, length-append, length-take, length-drop, length-replicate, get_or-replicate}
use Rattle.arrays.specs.Position.{backward}
use Rattle.arrays.proofs.Places.{length_backward, replicate_low}
use Rattle.jobs.specs.declared.model.Job.{Job}
use Rattle.jobs.specs.declared.model.JobList.{JobList}
use Rattle.jobs.specs.Model.{max_jobs, no_job, jobs_of}
use Rattle.jobs.specs.Best.{best}
use Rattle.select.specs.Word.{radix, max_word, Low, Packable}
use Rattle.select.specs.Row.{row_length, score, Starts, Scored, FilledRow}
use Rattle.select.specs.Table.{filled}
use Rattle.select.specs.Contract.{Fillable}
use Rattle.select.proofs.Picks.{length_filled, filled_none, filled_more}

-- what the jobs js leave: their scores, which start at entry f, and their rows of picks in a table that was table₀
pub record AfterJobs (js : List Job) (t w f : ℕ) (table₀ scores table : List ℕ) : Type 0 where
  pub size : length scores ≡ w
  pub starts : Starts f scores
  pub low : (m : ℕ) → get_or scores m 0 ≤ radix + length js * max_word
  pub scored : Scored js t w scores
  pub done : table ≡ filled js t w table₀

-- of no jobs there is one choice, whose total is 0
score_none : (x : ℕ) → score [] x ≡ 1
unfolding best
score_none x = refl

after_start : {t w : ℕ} {table scores : List ℕ} → scores ≡ replicate w radix → AfterJobs [] t w 0 table scores table
after_start {t} {w} {table} one =
    rw one
    record {
      size = length-replicate {A = ℕ} w radix;
      starts =
          record {
            most = omega arith;
            none = λ m l. absurd (omega arith);
            some = λ m l u.
                omega (arith, get_or-replicate {A = ℕ} w m radix 0 (omega (arith, length-replicate {A = ℕ} w radix)));
          };
      low = λ m. replicate_low w radix m;
      scored = λ m inside. get_or-replicate {A = ℕ} w m radix 0 inside ∙ ap (λ (s : ℕ). s * radix) (sym (score_none (t + m)));
      done = sym (filled_none t w table);
    }

-- one job more, in place i: the k entries from i * w on are lent, and come back as its row
after_step : {js : List Job} {t w f : ℕ} {table₀ before table : List ℕ} → AfterJobs js t w f table₀ before table →
    (i : ℕ) → length js ≡ i → (k : ℕ) → k ≡ w → {j : Job} {f' : ℕ} {scores row : List ℕ} → FilledRow j t w before f' scores row →
    AfterJobs (j ∷ js) t w f' table₀ scores (take (i * w) table ++ (row ++ drop k (drop (i * w) table)))
after_step {js} {t} {w} {table₀ = table₀} h i place k same {j} filling =
    record {
      size = filling.size;
      starts = filling.starts js h.scored;
      low = λ m. omega (arith, filling.low (radix + length js * max_word) h.low m);
      scored = filling.scored js h.scored;
      done = rw same (filled_more j js t w (i * w) table₀ (rw place) h.done (filling.picked js h.scored));
    }

-- after the first i jobs of a list: their scores stand at the front of a row, and another has room for the words of the next
pub record Filling (list : JobList) (t w : ℕ) (table₀ scores words table : List ℕ) (f i : ℕ) : Type 0 where
  pub fillable : Fillable list t w (length table₀)
  pub packable : (i : ℕ) → i < list.count → Packable (get_or list.jobs i no_job)
  pub most : i ≤ list.count
  pub room : w ≤ length words
  pub after : AfterJobs (backward no_job list.jobs i) t w f table₀ (take w scores) table

pub filling_start : {list : JobList} {t w : ℕ} {table : List ℕ} → Fillable list t w (length table) →
    ((i : ℕ) → i < list.count → Packable (get_or list.jobs i no_job)) →
    {scores words : List ℕ} → scores ≡ replicate w radix → w ≤ length words → (rest : List ℕ) →
    Filling list t w table (scores ++ rest) words table 0 0
filling_start {w = w} fillable packable {scores} one room rest =
    record {
      fillable = fillable;
      packable = packable;
      most = omega arith;
      room = room;
      after = rw (take_at scores rest w (rw one (length-replicate {A = ℕ} w radix))) (after_start one);
    }

module _
    {list : JobList} {t w : ℕ} {table₀ scores words table : List ℕ} {f i : ℕ}
    (h : Filling list t w table₀ scores words table f i)
  where
    count : length (backward no_job list.jobs i) ≡ i
    count = length_backward no_job list.jobs i

    -- the table keeps its length
    pub filling_size : length table ≡ length table₀
    filling_size =
        let long : length (backward no_job list.jobs i) * w ≤ length table₀ =
        rw count (omega (arith, mul-le-mul_right w h.most, h.fillable.long))
        in
        ap length h.after.done ∙ length_filled _ t w table₀ long

    pub filling_room : w ≤ length scores
    filling_room = omega (arith, h.after.size, length-take w scores)

    module _ (more : i < list.count) where
      -- the row of job i lies in the table
      pub filling_inside : i * w + w ≤ length table
      filling_inside = omega (arith, filling_size, mul-le-mul_right w more, h.fillable.long)

      -- its bounds are small numbers
      pub filling_small : i * w + w ≤ max_jobs * row_length
      filling_small =
          omega (
            arith,
            mul-le-mul_right w more,
            mul-le-mul_right w h.fillable.most,
            mul-le-mul_left max_jobs h.fillable.wide,
          )

      -- it is lent as the k entries from i * w on
      pub filling_lent : (k : ℕ) → k ≡ w → length (take k (drop (i * w) table)) ≡ w
      filling_lent k same = simp (length-take, length-drop) (omega (arith, filling_inside))

      -- the scores leave room for a worth more
      pub filling_low : (m : ℕ) → Low (get_or (take w scores) m 0)
      filling_low m = omega (arith, h.after.low m, h.fillable.most, count)

      -- job i: the fronts of both rows were lent, and come back with its scores and its words
      pub filling_step : (k : ℕ) → k ≡ w → {f' : ℕ} {scores' row : List ℕ} →
          FilledRow (get_or list.jobs i no_job) t w (take w scores) f' scores' row →
          (words' : List ℕ) → length words' ≡ w → (rest rest' : List ℕ) →
          Filling list t w table₀ (scores' ++ rest) (words' ++ rest')
          (take (i * w) table ++ (row ++ drop k (drop (i * w) table))) f' (i + 1)
      filling_step k same {scores' = scores'} filled words' size rest rest' =
          record {
            fillable = h.fillable;
            packable = h.packable;
            most = omega arith;
            room = omega (arith, length-append words' rest');
            after = rw (add-one, take_at scores' rest w filled.size) (after_step h.after i count k same filled);
          }

    pub filling_end : list.count ≤ i → table ≡ filled (jobs_of list) t w table₀
    filling_end all = let exact : i ≡ list.count = omega (arith, h.most) in rw exact at h.after.done
