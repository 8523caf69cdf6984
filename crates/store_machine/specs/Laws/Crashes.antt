-- How what each crash leaves goes on over a call of the device. No public contract needs these laws.
use Rattle.std.proofs.Common.{◌≡◌, inl, inr, ⊎_elim, ℕ, ◌+◌, ◌≤◌, List, [], ◌∷◌, ◌++◌, length, take, sym, ◌∙◌, ap, subst, arith, Option, Some}
use Rattle.std.proofs.lemmas.List.{take-append-le, take_all, length_push}
use Rattle.std.proofs.lemmas.Option.{same_Some}
use Rattle.std.proofs.Math.Seq.{take-append_seam}
use Rattle.dev_model.specs.Story.{Story, Bytes, Calls, after, clock_of, IsImage, IsImageNow}
use Rattle.dev_model.specs.Moments.{EachMoment, LeavesOnly}
use Rattle.dev_model.specs.Laws.Runs.{EachMoment-join, before_or_since}
use Rattle.dev_model.specs.Laws.Images.{IsImage-now}
use Rattle.table_model.specs.Table.{Table}
use Rattle.component_image.specs.Recovered.{Recovers}
use Rattle.component_image.specs.Standing.{RecoversEither}
use Rattle.store_machine.specs.Outcomes.{Group, after_groups}
use Rattle.store_machine.specs.Crash.{acked_by, Keeps, RecoversFirst}
use Rattle.store_machine.specs.Standing.{AreUpTo}
use Rattle.store_machine.specs.Laws.Counting.{acked_by-le, acked_by-all, acked_by-later, AreUpTo-push}

module _ (pages : ℕ) (table : Table) (logged : List Group) (acks : List ℕ) (group : Group) (all : length acks ≡ length logged) where
  abbrev more : List Group
  more = logged ++ group ∷ []

  -- one group more, which isn't acknowledged
  longer : (m : ℕ) (image : Bytes) → Keeps pages table logged acks m image → Keeps pages table more acks m image
  longer m image keeps =
      ⊎_elim
      (λ is. inl (subst (λ (groups : List Group). Recovers pages (after_groups table groups) image) (sym (take-append-le (acked_by m acks) logged (group ∷ []) few)) is))
      (λ is. inr (
        omega (arith, is.0, length_push logged group),
        subst (λ (groups : List Group). Recovers pages (after_groups table groups) image) (sym (take-append-le (acked_by m acks + 1) logged (group ∷ []) (omega (arith, is.0)))) is.1,
      ))
      keeps
    where
      few : acked_by m acks ≤ length logged
      few = omega (arith, acked_by-le m acks, all)

  -- the table before the group, or after it, at a moment at which all before it are acknowledged
  either : (last : ℕ) → AreUpTo last acks → (m : ℕ) (image : Bytes) → last ≤ m → RecoversEither pages (after_groups table logged) (after_groups table more) image → Keeps pages table more acks m image
  either last acked m image since (inl before) =
      let count : acked_by m acks ≡ length logged = acked_by-all m last acks acked since ∙ all in
      let groups : take (acked_by m acks) more ≡ logged = ap (λ (n : ℕ). take n more) count ∙ take-append_seam logged (group ∷ []) in
      inl (subst (λ (g : List Group). Recovers pages (after_groups table g) image) (sym groups) before)
  either last acked m image since (inr behind) =
      let count : acked_by m acks ≡ length logged = acked_by-all m last acks acked since ∙ all in
      let groups : take (acked_by m acks + 1) more ≡ more = take_all (acked_by m acks + 1) more (omega (arith, count, length_push logged group)) in
      inr (omega (arith, count, length_push logged group), subst (λ (g : List Group). Recovers pages (after_groups table g) image) (sym groups) behind)

  -- each image since the opening, over a group that isn't acknowledged
  pub attempt : (from : ℕ) (s : Story) (calls : Calls) → AreUpTo (clock_of s) acks → EachMoment from s (Keeps pages table logged acks)
      → EachMoment (clock_of s) (after s calls) (λ _. RecoversEither pages (after_groups table logged) (after_groups table more))
      → EachMoment from (after s calls) (Keeps pages table more acks)
  attempt from s calls acked before during =
      EachMoment-join from s calls (Keeps pages table more acks)
      (λ m le_from le_to image is. longer m image (before m le_from le_to image is))
      (λ m le_from le_to image is. either (clock_of s) acked m image le_from (during m le_from le_to image is))

-- and from its ack on
pub acknowledged : (pages from : ℕ) (table : Table) (groups : List Group) (acks : List ℕ) (ack : ℕ) (u : Story) → length acks + 1 ≡ length groups → AreUpTo (clock_of u) acks → ack ≡ clock_of u
    → EachMoment from u (Keeps pages table groups acks) → ((image : Bytes) → IsImageNow u image → Recovers pages (after_groups table groups) image)
    → EachMoment from u (Keeps pages table groups (acks ++ ack ∷ []))
acknowledged pages from table groups acks ack u all acked at before now m le_from le_to image is =
    ⊎_elim
    (λ earlier. subst (λ (n : ℕ). RecoversFirst pages table groups n image) (sym (acked_by-later m ack acks earlier)) (before m le_from le_to image is))
    (λ since.
    let here : m ≡ clock_of u = omega arith in
    let recovers : Recovers pages (after_groups table groups) image = now image (IsImage-now u image (subst (λ (n : ℕ). IsImage u n image) here is)) in
    let up : AreUpTo (clock_of u) (acks ++ ack ∷ []) = AreUpTo-push (clock_of u) ack acks acked (omega arith) in
    let count : acked_by m (acks ++ ack ∷ []) ≡ length acks + 1 = acked_by-all m (clock_of u) (acks ++ ack ∷ []) up (omega arith) ∙ length_push acks ack in
    let all_of : take (acked_by m (acks ++ ack ∷ [])) groups ≡ groups = take_all (acked_by m (acks ++ ack ∷ [])) groups (omega (arith, count)) in
    inl (subst (λ (g : List Group). Recovers pages (after_groups table g) image) (sym all_of) recovers))
    (before_or_since m ack)

-- A call that leaves the table: where each image of each of its moments has it, what was acknowledged is kept.
pub keeps_table : (pages from : ℕ) (table : Table) (groups : List Group) (acks : List ℕ) (s t : Story) (now : Option Story) → length acks ≡ length groups → AreUpTo (clock_of s) acks
    → EachMoment from s (Keeps pages table groups acks) → LeavesOnly s now (Recovers pages (after_groups table groups)) → now ≡ Some t → EachMoment from t (Keeps pages table groups acks)
keeps_table pages from table groups acks s t now all up before run is =
    subst (λ (u : Story). EachMoment from u (Keeps pages table groups acks)) (same_Some _ _ (sym run.told ∙ is))
    (EachMoment-join from s run.calls (Keeps pages table groups acks) before
    (λ m le_from le_to image left.
    let recovers : Recovers pages (after_groups table groups) image = run.each m le_from le_to image left in
    let rows : take (acked_by m acks) groups ≡ groups = take_all (acked_by m acks) groups (omega (arith, acked_by-all m (clock_of s) acks up le_from, all)) in
    inl (subst (λ (g : List Group). Recovers pages (after_groups table g) image) (sym rows) recovers)))
