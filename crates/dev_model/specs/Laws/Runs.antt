-- Laws of what holds at each moment of a run. No public contract needs them.
use Rattle.std.proofs.Common.{◌≡◌, ◌⊎◌, inl, inr, ⊎_elim, ℕ, ◌<◌, ◌≤◌, [], ◌∷◌, ◌++◌, Option, Some, refl, sym, ◌∙◌, ap, subst, arith, zero, suc}
use Rattle.std.proofs.lemmas.Option.{same_Some}
use Rattle.dev_model.specs.Story.{Bytes, Call, Read, Write, Sync, FailedWrite, FailedCall, Calls, Story, clock_of, with_call, after, WhereTold, IsImage, IsImageDuring, IsImageNow}
use Rattle.dev_model.specs.Doing.{noted, HasChangedNothing, HasFailed}
use Rattle.dev_model.specs.Moments.{EachMoment, LeavesOnly}
use Rattle.dev_model.specs.Laws.Images.{IsImage-earlier, IsImage-during, IsImage-now, IsImageNow-during, IsImage-older}

-- each image that a crash may leave while one of these calls is under way has P
abbrev pub During : Story → Calls → (Bytes → Type 0) → Type 0
During s [] P = Unit {0}
During s (call ∷ calls) P = ((image : Bytes) → IsImageDuring s call image → P image) × During (with_call s call) calls P

moment_of : (m c : ℕ) → m ≤ suc c → (m < c) ⊎ ((m ≡ c) ⊎ (m ≡ suc c))
moment_of zero zero le = inr (inl refl)
moment_of zero (suc c) le = inl (omega arith)
moment_of (suc zero) zero le = inr (inr refl)
moment_of (suc (suc m)) zero le = absurd (omega arith)
moment_of (suc m) (suc c) le = ⊎_elim (λ lt. inl (omega arith)) (λ e. inr (⊎_elim (λ is. inl (ap suc is)) (λ is. inr (ap suc is)) e)) (moment_of m c (omega arith))

-- one call more: what holds of each image while it is under way, and of each after it
pub EachMoment-with_call : (from : ℕ) (s : Story) (call : Call) (P : ℕ → Bytes → Type 0) → EachMoment from s P
    → ((image : Bytes) → IsImageDuring s call image → P (clock_of s) image)
    → ((image : Bytes) → IsImageNow (with_call s call) image → P (suc (clock_of s)) image)
    → EachMoment from (with_call s call) P
EachMoment-with_call from s call P before during now m le_from le_to image is =
    ⊎_elim
    (λ earlier. before m le_from (omega arith) image (IsImage-earlier s call m image earlier is))
    (λ e. ⊎_elim
    (λ same. subst (λ (n : ℕ). P n image) (sym same) (during image (IsImage-during s call image (subst (λ (n : ℕ). IsImage (with_call s call) n image) same is))))
    (λ last. subst (λ (n : ℕ). P n image) (sym last) (now image (IsImage-now (with_call s call) image (subst (λ (n : ℕ). IsImage (with_call s call) n image) last is))))
    e)
    (moment_of m (clock_of s) le_to)

-- before the first call
pub EachMoment-start : (s : Story) (P : ℕ → Bytes → Type 0) → ((image : Bytes) → IsImageNow s image → P (clock_of s) image) → EachMoment (clock_of s) s P
EachMoment-start s P now m le_from le_to image is =
    let same : m ≡ clock_of s = omega arith in
    subst (λ (n : ℕ). P n image) (sym same) (now image (IsImage-now s image (subst (λ (n : ℕ). IsImage s n image) same is)))

now_from : (s : Story) (calls : Calls) (P : Bytes → Type 0) → During s calls P → ((image : Bytes) → IsImageNow (after s calls) image → P image) → (image : Bytes) → IsImageNow s image → P image
now_from s [] P during now image is = now image is
now_from s (call ∷ calls) P during now image is = during.0 image (IsImageNow-during s call image is)

-- a run of calls: what holds of each image during each call, and of each after the last
pub EachMoment-after : (from : ℕ) (s : Story) (calls : Calls) (P : Bytes → Type 0) → EachMoment from s (λ _. P) → During s calls P
    → ((image : Bytes) → IsImageNow (after s calls) image → P image) → EachMoment from (after s calls) (λ _. P)
EachMoment-after from s [] P before during now = before
EachMoment-after from s (call ∷ calls) P before during now =
    EachMoment-after from (with_call s call) calls P
    (EachMoment-with_call from s call (λ _. P) before during.0 (now_from (with_call s call) calls P during.1 now))
    during.1 now

-- the run that made these calls
pub LeavesOnly-calls : (s : Story) (calls : Calls) (P : Bytes → Type 0) (new : Option Story) → new ≡ Some (after s calls) → During s calls P
    → ((image : Bytes) → IsImageNow (after s calls) image → P image) → LeavesOnly s new P
LeavesOnly-calls s calls P new told during now = record {
  calls = calls;
  told = told;
  each = EachMoment-after (clock_of s) s calls P (EachMoment-start s (λ _. P) (now_from s calls P during now)) during now;
}

-- the run that made no call yet
pub LeavesOnly-start : (s : Story) (now : Option Story) (P : Bytes → Type 0) → now ≡ Some s → ((image : Bytes) → IsImageNow s image → P image) → LeavesOnly s now P
LeavesOnly-start s now P told each = LeavesOnly-calls s [] P now told tt each

pub after-append : (s : Story) (calls more : Calls) → after s (calls ++ more) ≡ after (after s calls) more
after-append s [] more = refl
after-append s (call ∷ calls) more = after-append (with_call s call) calls more

pub During-append : (s : Story) (calls more : Calls) (P : Bytes → Type 0) → During s (calls ++ more) P → During s calls P × During (after s calls) more P
During-append s [] more P during = (tt, during)
During-append s (call ∷ calls) more P during =
    let rest : During (with_call s call) calls P × During (after (with_call s call) calls) more P = During-append (with_call s call) calls more P during.1 in
    ((during.0, rest.0), rest.1)

pub During-last : (s : Story) (calls : Calls) (call : Call) (P : Bytes → Type 0) → During s calls P → ((image : Bytes) → IsImageDuring (after s calls) call image → P image) → During s (calls ++ call ∷ []) P
During-last s [] call P during last = (last, tt)
During-last s (c ∷ calls) call P during last = (during.0, During-last (with_call s c) calls call P during.1 last)

-- the run with one call more
ended : (s : Story) (calls : Calls) (last : Call) (P : Bytes → Type 0) (new : Option Story) → new ≡ Some (with_call (after s calls) last) → During s calls P
    → ((image : Bytes) → IsImageDuring (after s calls) last image → P image) → ((image : Bytes) → IsImageNow (with_call (after s calls) last) image → P image) → LeavesOnly s new P
ended s calls last P new told during under_way now =
    let same : after s (calls ++ last ∷ []) ≡ with_call (after s calls) last = after-append s calls (last ∷ []) in
    LeavesOnly-calls s (calls ++ last ∷ []) P new (told ∙ ap (λ (t : Story). Some t) (sym same)) (During-last s calls last P during under_way)
    (λ image is. now image (subst (λ (t : Story). IsImageNow t image) same is))

-- the run whose last call changed nothing
nothing_changed : (s : Story) (calls : Calls) (P : Bytes → Type 0) (call : Call) (mid new : Option Story) → mid ≡ Some (after s calls) → HasChangedNothing mid new
    → During s (calls ++ call ∷ []) P → LeavesOnly s new P
nothing_changed s calls P call mid new told (inl failed) during =
    let parts : During s calls P × During (after s calls) (call ∷ []) P = During-append s calls (call ∷ []) P during in
    ended s calls FailedCall P new (failed ∙ ap (noted FailedCall) told) parts.0
    (λ image is. parts.1.0 image (λ i spared settled. is i tt settled))
    (λ image is. parts.1.0 image (λ i spared settled. is i settled))
nothing_changed s calls P call mid new told (inr same) during =
    let parts : During s calls P × During (after s calls) (call ∷ []) P = During-append s calls (call ∷ []) P during in
    LeavesOnly-calls s calls P new (same ∙ told) parts.0 (λ image is. parts.1.0 image (IsImageNow-during (after s calls) call image is))

-- the run whose last call failed
pub LeavesOnly-failed : (s : Story) (calls : Calls) (P : Bytes → Type 0) (call : Call) (mid new : Option Story) → mid ≡ Some (after s calls) → HasFailed call mid new
    → During s (calls ++ call ∷ []) P → LeavesOnly s new P
LeavesOnly-failed s calls P (Read at count) mid new told failed during = nothing_changed s calls P (Read at count) mid new told failed during
LeavesOnly-failed s calls P (Write at bytes) mid new told (inl failed) during =
    let parts : During s calls P × During (after s calls) (Write at bytes ∷ []) P = During-append s calls (Write at bytes ∷ []) P during in
    ended s calls (FailedWrite at bytes) P new (failed ∙ ap (noted (FailedWrite at bytes)) told) parts.0
    (λ image is. parts.1.0 image is)
    (λ image is. parts.1.0 image (λ i spared settled. is i (spared, settled)))
LeavesOnly-failed s calls P (Write at bytes) mid new told (inr nothing) during = nothing_changed s calls P (Write at bytes) mid new told nothing during
LeavesOnly-failed s calls P Sync mid new told failed during = nothing_changed s calls P Sync mid new told failed during
LeavesOnly-failed s calls P (FailedWrite at bytes) mid new told failed during = absurd failed
LeavesOnly-failed s calls P FailedCall mid new told failed during = absurd failed

pub before_or_since : (m n : ℕ) → (m < n) ⊎ (n ≤ m)
before_or_since m zero = inr (omega arith)
before_or_since zero (suc n) = inl (omega arith)
before_or_since (suc m) (suc n) = ⊎_elim (λ lt. inl (omega arith)) (λ le. inr (omega arith)) (before_or_since m n)

-- what holds of each moment of a run and of each moment after it
pub EachMoment-join : (from : ℕ) (s : Story) (calls : Calls) (P : ℕ → Bytes → Type 0) → EachMoment from s P → EachMoment (clock_of s) (after s calls) P → EachMoment from (after s calls) P
EachMoment-join from s calls P first second m le_from le_to image is =
    ⊎_elim
    (λ earlier. first m le_from (omega arith) image (IsImage-older s calls m image earlier is))
    (λ since. second m since le_to image is)
    (before_or_since m (clock_of s))

-- a run and then another one
pub LeavesOnly-join : (s t : Story) (mid new : Option Story) (P : Bytes → Type 0) → mid ≡ Some t → LeavesOnly s mid P → LeavesOnly t new P → LeavesOnly s new P
LeavesOnly-join s t mid new P is first second =
    let u : Story = after s first.calls in
    let at : t ≡ u = same_Some _ _ (sym is ∙ first.told) in
    let more : LeavesOnly u new P = subst (λ (v : Story). LeavesOnly v new P) at second in
    let same : after s (first.calls ++ more.calls) ≡ after u more.calls = after-append s first.calls more.calls in
    record {
      calls = first.calls ++ more.calls;
      told = more.told ∙ ap (λ (v : Story). Some v) (sym same);
      each = subst (λ (v : Story). EachMoment (clock_of s) v (λ _. P)) (sym same) (EachMoment-join (clock_of s) u more.calls (λ _. P) first.each more.each);
    }

-- a run and then another one, which begins at whatever the first has come to
pub LeavesOnly-then : (s : Story) (mid new : Option Story) (P : Bytes → Type 0) → LeavesOnly s mid P → WhereTold mid (λ t. LeavesOnly t new P) → LeavesOnly s new P
LeavesOnly-then s mid new P first second = LeavesOnly-join s (after s first.calls) mid new P first.told first (second (after s first.calls) first.told)

-- a weaker claim
pub LeavesOnly-weaker : (s : Story) (new : Option Story) (P Q : Bytes → Type 0) → ((image : Bytes) → P image → Q image) → LeavesOnly s new P → LeavesOnly s new Q
LeavesOnly-weaker s new P Q weaker run = record {
  calls = run.calls;
  told = run.told;
  each = λ m le_from le_to image is. weaker image (run.each m le_from le_to image is);
}

-- two facts of each moment
pub EachMoment-both : (from : ℕ) (s : Story) (P Q : ℕ → Bytes → Type 0) → EachMoment from s P → EachMoment from s Q → EachMoment from s (λ m image. P m image × Q m image)
EachMoment-both from s P Q p q m le_from le_to image is = (p m le_from le_to image is, q m le_from le_to image is)

-- a weaker claim of each moment
pub EachMoment-weaker : (from : ℕ) (s : Story) (P Q : ℕ → Bytes → Type 0) → ((m : ℕ) (image : Bytes) → P m image → Q m image) → EachMoment from s P → EachMoment from s Q
EachMoment-weaker from s P Q weaker each m le_from le_to image is = weaker m image (each m le_from le_to image is)
