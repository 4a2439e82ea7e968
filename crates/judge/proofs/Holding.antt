-- A list's refusal, and a choice's, is the first of the order whose condition holds.
use Prim.Native.Nat.{ℕ, zero, suc, ◌-◌, ◌≤◌, ◌<◌}
use native.Mathlib.Omega.{arith}
use mathlib.Core.Path.{◌≡◌, refl, sym, ◌∙◌}
use mathlib.Core.Logic.{inr, ⊎_elim}
use mathlib.Core.Bool.{true, false, true≢false}
use mathlib.Core.List.{List, [], ◌∷◌, map, flatten}
use lib.ListN.{length, get_or}
use lib.Dec.{eqb}
use Rattle.arrays.specs.Each.{some_below}
use Rattle.arrays.proofs.Each.{below_some, some_below_lem}
use Rattle.arrays.proofs.Tests.{lt_holds, le_holds, same_holds, same_fails, not_holds, either_holds, both_hold}
use Rattle.week.specs.declared.refusal.Refusal.{Refusal}
use Rattle.week.specs.Record.{Week, max_minutes, max_batches, max_recipes, batch_at, recipe_at, batch_of, number_at, span_of}
use Rattle.week.specs.Ordered.{ordered_week}
use Rattle.week.specs.Refusal.{refused, first_of, first, at_place}
use Rattle.week.specs.RefusalOrder.{one_of, stage, rank, least_place, greatest_place, of_recipe, Naming, NoLater, FirstToHold, ◌when◌, ◌or◌, some_of}
use Rattle.week.proofs.First.{place_each, place_first, first_up}
use Rattle.week.proofs.Holding.{if_holds, at_holds, or_holds, one_holds, some_within, some_holds, AtPlace, when_place, place_ahead, recipe_ahead}
use Rattle.week.proofs.Holding.{when_rank, FromRank, rank_last, rank_more, stage_ahead}
use Rattle.week.proofs.Naming.{when_naming}
use Rattle.judge.specs.BatchFault.{cost_fault, costs_fault, worth_fault, worths_fault}
use Rattle.judge.specs.Fault.{week_fault, number_fault, batch_faults, batch_fault, list_fault, name_fault, choice_fault, handed_faults}
use Rattle.judge.specs.Holds.{WeekHolds, CostHolds, WorthHolds, NumberHolds, BatchHolds, ListHolds, NameHolds, ChoiceHolds, list_numbers}

-- the stages of the order that a list and a choice are asked in
abbrev week_stage : ℕ
week_stage = 2

abbrev batch_stage : ℕ
batch_stage = 3

abbrev choice_stage : ℕ
choice_stage = 4

module _ (w : Week) where
  -- 1 to 3
  week_holds : FirstToHold (WeekHolds w) (week_fault w) × ((r : Refusal) → WeekHolds w r → stage r.number ≡ week_stage)
  unfolding week_fault stage rank flatten
  week_holds =
      let all : FromRank week_stage 0 3 (WeekHolds w) _ =
      rank_more (if_holds 1 0 0 refl (le_holds w.closing w.opening)) (when_rank 1 0 0 refl refl)
      (rank_more (if_holds 2 0 0 refl (lt_holds max_minutes (span_of w))) (when_rank 2 0 0 refl refl)
      (rank_last (if_holds 3 0 0 refl (lt_holds max_batches w.count)) (when_rank 3 0 0 refl refl))) in
      (all.decides, λ r h. (all.within r h).0)

  -- 4 to 9, of the batch of index i
  module _ (i : ℕ) where
    abbrev CostAt : ℕ → Refusal → Type 0
    CostAt k = refused 7 (suc i) (suc k) when CostHolds w (suc i) k

    costs_hold : FirstToHold (some_of ((batch_at w i).count - 1) CostAt) (at_place (suc i) (costs_fault (batch_at w i)))
    unfolding cost_fault
    costs_hold =
        let b = batch_at w i in
        rw (place_first (suc i) (cost_fault b) 1 (b.count - 1), first_up)
        (some_holds CostAt (λ k. at_place (suc i) (cost_fault b (suc k))) (b.count - 1) each (λ k m less. recipe_ahead 7 (suc i) (omega arith)))
      where
        each : (h : ℕ) → h < (batch_at w i).count - 1 → FirstToHold (CostAt (suc h)) (at_place (suc i) (cost_fault (batch_at w i) (suc h)))
        each h l =
            let b = batch_at w i in
            let e : suc h - 1 ≡ h = omega arith in
            rw e
            (at_holds 7 (suc i) (suc (suc h)) refl
            (either_holds _ _ (lt_holds (recipe_at b h).cost (recipe_at b (suc h)).cost) (same_holds (recipe_at b h).cost 0)))

    abbrev WorthAt : ℕ → Refusal → Type 0
    WorthAt k = refused 8 (suc i) k when WorthHolds w (suc i) k

    worths_hold : FirstToHold (some_of (batch_at w i).count WorthAt) (at_place (suc i) (worths_fault (batch_at w i)))
    unfolding worth_fault
    worths_hold =
        let b = batch_at w i in
        rw (place_first (suc i) (worth_fault b) 0 b.count)
        (some_holds WorthAt (λ k. at_place (suc i) (worth_fault b k)) b.count
        (λ h l. at_holds 8 (suc i) (suc h) refl (both_hold _ _ (same_holds (recipe_at b h).cost 0) (lt_holds 0 (recipe_at b h).worth)))
        (λ k m less. recipe_ahead 8 (suc i) (omega arith)))

    number_holds : FirstToHold (refused 9 (suc i) 0 when NumberHolds w (suc i)) (at_place (suc i) (number_fault (number_at w) i (batch_at w i)))
    unfolding number_fault
    number_holds =
        let b = batch_at w i in
        at_holds 9 (suc i) 0 refl
        (either_holds _ _ (same_holds b.number 0) (
          λ h.
              let at = below_some _ i h in
              (suc at.0, omega arith, omega (arith, at.1), (same_holds (number_at w at.0) b.number).0 at.2),
          λ (h, low, high, same). taken h low high same,
        ))
      where
        taken : (h : ℕ) → 1 ≤ h → h < suc i → (batch_of w h).number ≡ (batch_at w i).number →
            some_below (λ k. eqb (number_at w k) (batch_at w i).number) i ≡ true
        taken zero low high same = absurd (omega arith)
        taken (suc h) low high same = some_below_lem _ i h (omega arith) ((same_holds _ _).1 same)

    batch_rank : FromRank batch_stage (suc i) 6 (BatchHolds w (suc i)) (map (at_place (suc i)) (batch_faults w i))
    unfolding stage rank flatten
    batch_rank =
        let b = batch_at w i in
        rank_more (at_holds 4 (suc i) 0 refl (either_holds _ _ (same_holds b.count 0) (lt_holds max_recipes b.count)))
        (when_rank 4 (suc i) 0 refl refl)
        (rank_more (at_holds 5 (suc i) 0 refl (le_holds b.due b.arrival)) (when_rank 5 (suc i) 0 refl refl)
        (rank_more (at_holds 6 (suc i) 0 refl (le_holds w.closing b.arrival)) (when_rank 6 (suc i) 0 refl refl)
        (rank_more costs_hold (λ r (k, _, _, h). when_rank 7 (suc i) (suc k) refl refl r h)
        (rank_more worths_hold (λ r (k, _, _, h). when_rank 8 (suc i) k refl refl r h)
        (rank_last number_holds (when_rank 9 (suc i) 0 refl refl))))))

  batch_place : (i : ℕ) → AtPlace batch_stage (suc i) (BatchHolds w (suc i))
  batch_place i r h = let at = (batch_rank i).within r h in (at.0, at.1)

  -- 4 to 9, "batch by batch"
  batches_hold : FirstToHold (some_of w.count (BatchHolds w)) (first (batch_fault w) 0 w.count)
  unfolding batch_fault
  batches_hold =
      some_holds (BatchHolds w) (batch_fault w) w.count
      (λ i l. rw (place_each (suc i) (batch_faults w i)) (batch_rank i).decides)
      (λ i j less. place_ahead (omega arith) (batch_place i) (batch_place j))

  -- where a batch is at fault, every batch before it passes whole: r stands no later than any condition of the list
  pub batches_before : (r : Refusal) → ((s : Refusal) → ListHolds w s → NoLater r s) → stage r.number ≡ batch_stage →
      (h : ℕ) → suc h < r.place → h < w.count → (s : Refusal) → BatchHolds w (suc h) s → ⊥
  batches_before r no-later at h before within s holds =
      let (asked, place) = batch_place h s holds in
      omega (arith, place, (no-later s (inr (suc h, omega arith, within, holds))).places (at ∙ sym asked))

  pub list_stages : (r : Refusal) → ListHolds w r → (week_stage ≤ stage r.number) × (stage r.number ≤ batch_stage)
  list_stages r =
      ⊎_elim (λ h. let at = week_holds.1 r h in (omega (arith, at), omega (arith, at)))
      (some_within (BatchHolds w) (λ r. (week_stage ≤ stage r.number) × (stage r.number ≤ batch_stage)) w.count
      (λ i l r h. let at = (batch_place i r h).0 in (omega (arith, at), omega (arith, at)))
      r)

  -- 1 to 9
  pub list_holds : FirstToHold (ListHolds w) (list_fault w)
  unfolding list_fault first_of
  list_holds =
      or_holds (week_fault w) _ week_holds.0 (λ _. one_holds _ batches_hold)
      (stage_ahead {σ = week_stage} (λ r h. omega (arith, week_holds.1 r h))
      (some_within (BatchHolds w) (λ r. week_stage < stage r.number) w.count (λ i l r h. omega (arith, (batch_place i r h).0))))

  -- 13
  module _ (choice : List ℕ) where
    abbrev NameAt : ℕ → Refusal → Type 0
    NameAt i = refused 13 i 0 when NameHolds w choice i

    names_hold : FirstToHold (some_of w.count NameAt) (first (name_fault w choice) 0 w.count)
    unfolding name_fault
    names_hold =
        some_holds NameAt (name_fault w choice) w.count
        (λ i l.
        if_holds 13 (suc i) 0 refl
        (either_holds _ _ (same_holds (get_or choice i 0) 0) (lt_holds (batch_at w i).count (get_or choice i 0))))
        (λ i j less. place_ahead (omega arith) (when_place 13 (suc i) 0) (when_place 13 (suc j) 0))

    choice_holds : FirstToHold (ChoiceHolds w choice) (choice_fault w choice)
    unfolding choice_fault first_of
    choice_holds =
        or_holds _ _ (if_holds 13 0 0 refl (not_holds _ (same_fails (length choice) w.count))) (λ _. one_holds _ names_hold)
        (λ s t h.
        some_within NameAt (NoLater s) w.count
        (λ i l r. place_ahead {p = 0} {q = suc i} (omega arith) (when_place 13 0 0) (when_place 13 (suc i) 0) s r h)
        t)

    choice_stage_lem : (r : Refusal) → ChoiceHolds w choice r → stage r.number ≡ choice_stage
    unfolding stage
    choice_stage_lem r =
        ⊎_elim (λ h. (when_place 13 0 0 r h).0)
        (some_within NameAt (λ r. stage r.number ≡ choice_stage) w.count (λ i l r h. (when_place 13 (suc i) 0 r h).0) r)

-- a list as it is handed in, and then a choice over the list in order
module _ (w : Week) (choice : List ℕ) where
  pub handed_holds : FirstToHold (ListHolds w or ChoiceHolds (ordered_week w) choice) (first_of (handed_faults w choice))
  unfolding first_of
  handed_holds =
      or_holds (list_fault w) _ (list_holds w) (λ _. one_holds _ (choice_holds (ordered_week w) choice))
      (stage_ahead {σ = batch_stage} (λ r h. (list_stages w r h).1) (λ r h. omega (arith, choice_stage_lem (ordered_week w) choice r h)))

  pub handed_stages : (r : Refusal) → (ListHolds w or ChoiceHolds (ordered_week w) choice) r → stage r.number ≤ choice_stage
  handed_stages r =
      ⊎_elim (λ h. omega (arith, (list_stages w r h).1)) (λ h. omega (arith, choice_stage_lem (ordered_week w) choice r h))

-- what such a refusal names, whatever the lines of a sheet
module _ (w : Week) (lines : ℕ) where
  pub list_naming : (r : Refusal) → ListHolds w r → Naming list_numbers w.count lines r
  unfolding least_place greatest_place
  list_naming r =
      ⊎_elim
      (⊎_elim (of_week_lem 1 refl refl r) (⊎_elim (of_week_lem 2 refl refl r) (of_week_lem 3 refl refl r)))
      (some_within (BatchHolds w) (Naming list_numbers w.count lines) w.count of_batch_lem r)
    where
      of_week_lem : (number : ℕ) {P : Type 0} → one_of list_numbers number ≡ true → least_place number ≡ 0 →
          (r : Refusal) → (refused number 0 0 when P) r → Naming list_numbers w.count lines r
      of_week_lem number one none = when_naming list_numbers w.count lines number 0 0 one (omega (arith, none)) (omega arith) (λ _. refl)

      in_batch : (number i recipe : ℕ) {P : Type 0} → i < w.count → one_of list_numbers number ≡ true → least_place number ≡ 1 →
          greatest_place w.count lines number ≡ w.count → (one_of of_recipe number ≡ false → recipe ≡ 0) →
          (r : Refusal) → (refused number (suc i) recipe when P) r → Naming list_numbers w.count lines r
      in_batch number i recipe l one least greatest =
          when_naming list_numbers w.count lines number (suc i) recipe one (omega (arith, least)) (omega (arith, greatest))

      of_batch_lem : (i : ℕ) → i < w.count → (r : Refusal) → BatchHolds w (suc i) r → Naming list_numbers w.count lines r
      of_batch_lem i l r =
          ⊎_elim (in_batch 4 i 0 l refl refl refl (λ _. refl) r)
          (⊎_elim (in_batch 5 i 0 l refl refl refl (λ _. refl) r)
          (⊎_elim (in_batch 6 i 0 l refl refl refl (λ _. refl) r)
          (⊎_elim (λ (k, _, _, h). in_batch 7 i (suc k) l refl refl refl (λ no. absurd (true≢false no)) r h)
          (⊎_elim (λ (k, _, _, h). in_batch 8 i k l refl refl refl (λ no. absurd (true≢false no)) r h)
          (in_batch 9 i 0 l refl refl refl (λ _. refl) r)))))

  pub choice_naming : (choice : List ℕ) (r : Refusal) → ChoiceHolds w choice r → Naming (13 ∷ []) w.count lines r
  unfolding least_place greatest_place
  choice_naming choice r =
      ⊎_elim (when_naming (13 ∷ []) w.count lines 13 0 0 refl (omega arith) (omega arith) (λ _. refl) r)
      (λ (i, low, high, h). when_naming (13 ∷ []) w.count lines 13 i 0 refl (omega arith) high (λ _. refl) r h)
