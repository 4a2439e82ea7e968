-- The traceback: the table is read from the last job to the first, each pick under the bound that the jobs after it leave.
use Prim.Native.Nat.{ℕ, suc, ◌+◌, ◌-◌, ◌*◌, ◌≤◌, ◌<◌}
use native.Mathlib.Numerals.{unary_clauses}
use native.Mathlib.Omega.{arith}
use mathlib.Core.Path.{◌≡◌, refl, sym, ap, subst, ◌∙◌}
use mathlib.Core.Bool.{true}
use mathlib.Core.List.{List, ◌∷◌, ◌++◌, append_assoc}
use mathlib.Core.Option as math
use mathlib.Core.Option.{none, some}
use lib.ListN.{length, get_or, take, drop, set, replicate, length-set}
use lib.Seq.{length-take-le, set_split, drop_at}
use Rattle.std.proofs.Common.{Option, Some, None}
use Rattle.arrays.specs.Position.{backward, forward}
use Rattle.arrays.proofs.Places.{length_forward, drop-replicate}
use Rattle.jobs.specs.declared.model.Version.{Version}
use Rattle.jobs.specs.declared.model.Job.{Job}
use Rattle.jobs.specs.declared.model.JobList.{JobList}
use Rattle.jobs.specs.declared.rule.Stretch.{Stretch}
use Rattle.jobs.specs.Model.{max_jobs, max_versions, no_job, version_of, jobs_of}
use Rattle.jobs.specs.Rule.{stretch_of, fits, next_bound}
use Rattle.jobs.specs.Best.{best, pick}
use Rattle.jobs.proofs.Rules.{bound_in}
use Rattle.jobs.proofs.BestOfAll.{best_some}
use Rattle.jobs.proofs.Parts.{Parts, pick_none, pick_some}
use Rattle.jobs.proofs.ChoiceArrays.{length_choice}
use Rattle.select.specs.Contract.{Readable, best_choice}
use Rattle.select.proofs.Entries.{Entry, entry_in, table_entry}

-- the answer, where a choice of the first i jobs goes before the entries of the array from i on
abbrev completed : List ℕ → ℕ → math.Option (List ℕ) → Option (List ℕ)
completed array i none = None
completed array i (some ks) = Some (forward ks ++ drop i array)

-- a version stored at its place leads the entries from there on
stored : (array : List ℕ) (at k : ℕ) (ks : List ℕ) → at < length array →
    forward (k ∷ ks) ++ drop (suc at) array ≡ forward ks ++ drop at (set array at k)
stored array at k ks inside =
    rw (
      append_assoc,
      set_split array at k inside,
      drop_at (take at array) (k ∷ drop (suc at) array) at (length-take-le at array (omega arith)),
    )

-- before job i: the answer is the best choice of the first i jobs under the bound x, completed by what the array holds
pub record Traceback (list : JobList) (t w close : ℕ) (table array : List ℕ) (x i : ℕ) : Type 0 where
  pub readable : Readable list t w close table
  pub within : i ≤ list.count
  pub from : t ≤ x
  pub to : x ≤ close
  pub size : length array ≡ max_jobs
  pub answer : best_choice (best (jobs_of list) close) ≡ completed array i (best (backward no_job list.jobs i) x)

-- at the start nothing is stored
pub trace_start : {list : JobList} {t w close : ℕ} {table : List ℕ} → Readable list t w close table →
    Traceback list t w close table (replicate max_jobs 0) close list.count
trace_start {list} {close = close} readable =
    record {
      readable = readable;
      within = omega arith;
      from = readable.opened;
      to = omega arith;
      size = refl;
      answer = by_best (best (jobs_of list) close) refl;
    }
  where
    by_best : (o : math.Option (List ℕ)) → best (jobs_of list) close ≡ o → best_choice o ≡ completed (replicate max_jobs 0) list.count o
    by_best none e = refl
    by_best (some ks) e =
        let size : length (forward ks) ≡ list.count =
        length_forward ks ∙ length_choice list ks (best_some (jobs_of list) close ks e).valid
        in
        rw (size, drop-replicate {A = ℕ} list.count max_jobs 0 readable.fillable.most)

module _
    {list : JobList} {t w close : ℕ} {table array : List ℕ} {x i : ℕ}
    (h : Traceback list t w close table array x i)
  where
    -- no job is left: the answer is the array
    pub trace_end : i ≡ 0 → Some array ≡ best_choice (best (jobs_of list) close)
    unfolding best
    trace_end first = sym (subst (λ (n : ℕ). Traceback list t w close table array x n) first h).answer

    -- one job, in place `at` of the array, and its pick
    module _ (at : ℕ) (last : i ≡ suc at) where
      here : Traceback list t w close table array x (suc at)
      here = subst (λ (n : ℕ). Traceback list t w close table array x n) last h

      entry : Entry list t w (suc at) x
      entry = record { first = omega arith; last = here.within; from = h.from; to = omega (arith, h.to, h.readable.inside) }

      pub trace_index : at * w + (x - t) < length table
      trace_index = omega (arith, simp unary_clauses at (entry_in entry), h.readable.fillable.long)

      below : at < list.count
      below = omega (arith, here.within)

      abbrev j : Job
      j = get_or list.jobs at no_job

      abbrev before : List Job
      before = backward no_job list.jobs at

      -- m is the minute that the pick is looked up at, from the opening on
      module _ {m : ℕ} (minute : m ≡ x - t) where
        abbrev k : ℕ
        k = get_or table (at * w + m) 0

        picked : k ≡ pick (j ∷ before) x
        picked = rw minute (simp unary_clauses at (table_entry entry table h.readable.rows))

        -- a pick of 0: no choice exists
        pub trace_none : k ≡ 0 → None ≡ best_choice (best (jobs_of list) close)
        trace_none zero = sym (here.answer ∙ ap (completed array (suc at)) (pick_none j before x (sym picked ∙ zero)))

        -- any other names a version of the job that fits
        module _ (other : k ≡ 0 → ⊥) where
          parts : (ks : List ℕ) × (best (j ∷ before) x ≡ some (k ∷ ks)) × Parts j before x k ks
          parts = pick_some j before x picked other

          pub trace_named : (1 ≤ k) × (k ≤ max_versions)
          trace_named = (parts.2.low, omega (arith, parts.2.high, h.readable.fillable.few at below))

          module _ {v : Version} (named : v ≡ version_of j k) where
            pub trace_fits : fits j v x ≡ true
            trace_fits = rw named parts.2.fit

            -- s is its stretch
            pub trace_step : {s : Stretch} → s ≡ stretch_of j v x →
                Traceback list t w close table (set array at k) s.start at
            unfolding next_bound
            trace_step {s} kept =
                let next : next_bound j v x ≡ s.start = ap (λ (q : Stretch). q.start) (sym kept) in
                let bound = bound_in j v x t (h.readable.fillable.ready at below) h.from trace_fits in
                record {
                  readable = h.readable;
                  within = omega (arith, below);
                  from = omega (arith, bound.0);
                  to = omega (arith, bound.1, h.to);
                  size = length-set array at k ∙ h.size;
                  answer =
                      here.answer
                      ∙ rw (
                        parts.1,
                        ← next,
                        named,
                        parts.2.rest,
                        stored array at k parts.0 (omega (arith, below, h.size, h.readable.fillable.most)),
                      );
                }
