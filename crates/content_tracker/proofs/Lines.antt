-- Lines that leave the current files as they are.
use Rattle.std.proofs.Common.{◌≡◌, ℕ, true, List, Result, Ok, Err, OnOk, OnErr, sym, ap, ◌∙◌, subst, refl, true≢false}
use Rattle.card_model.specs.declared.world.WorldEvent.{WorldEvent}
use Rattle.card_model.specs.declared.world.WorldEvent.TheVariants as world_event
use Rattle.epoch_cache.specs.declared.cached.CachedFile.{CachedFile}
use Rattle.epoch_cache.proofs.Listed.{forgotten_nothing}
use Rattle.script_reader.specs.declared.types.Script.{Script}
use Rattle.report.specs.declared.answer.Answer.{Answer}
use Rattle.report.specs.declared.line.Line.{Line}
use Rattle.report.specs.declared.line.Line.TheVariants as line
use Rattle.rules.specs.declared.kept.Kept.{Kept}
use Rattle.rules.specs.After.{facts_of, kept_after}
use Rattle.tracker.specs.Lines.{is_answered, is_published}
use Rattle.content_tracker.specs.declared.contents.Contents.{Contents}
use Rattle.content_tracker.specs.Contents.{AreOf, behind_event}

-- the contents stay those of the current files
kept_on : (now : Kept) (files : List CachedFile) (c : Contents) → now.files ≡ files → AreOf files c → AreOf now.files c
kept_on now files c same h = subst (λ (x : List CachedFile). AreOf x c) (sym same) h

module _ (s : Script) (k now : Kept) (c : Contents) (h : AreOf k.files c) where
  pub behind_mark : (a : ℕ) → now ≡ kept_after s (line.Turn a) k → AreOf now.files c
  behind_mark a e = kept_on now k.files c (ap (λ (x : Kept). x.files) e ∙ forgotten_nothing (facts_of s (line.Turn a) k).touch k.files refl refl) h

  pub behind_begin : (a i : ℕ) → now ≡ kept_after s (line.Begin a i) k → AreOf now.files c
  behind_begin a i e = kept_on now k.files c (ap (λ (x : Kept). x.files) e ∙ forgotten_nothing (facts_of s (line.Begin a i) k).touch k.files refl refl) h

  pub behind_published : (n f e p : ℕ) (text : List ℕ) → now ≡ kept_after s (line.Published n f e p text) k → AreOf now.files c
  behind_published n f e p text is = kept_on now k.files c (ap (λ (x : Kept). x.files) is ∙ forgotten_nothing (facts_of s (line.Published n f e p text) k).touch k.files refl refl) h

  pub behind_end : (n e p : ℕ) → now ≡ kept_after s (line.EpochEnd n e p) k → AreOf now.files c
  behind_end n e p is = kept_on now k.files c (ap (λ (x : Kept). x.files) is ∙ forgotten_nothing (facts_of s (line.EpochEnd n e p) k).touch k.files refl refl) h

  pub behind_refusal : (f n : ℕ) → now ≡ kept_after s (line.Refused f n) k → AreOf now.files c
  behind_refusal f n is = kept_on now k.files c (ap (λ (x : Kept). x.files) is ∙ forgotten_nothing (facts_of s (line.Refused f n) k).touch k.files refl refl) h

  pub behind_answer : (a i : ℕ) (given : Answer) → now ≡ kept_after s (line.Answered a i given) k → AreOf now.files c
  behind_answer a i given is = kept_on now k.files c (ap (λ (x : Kept). x.files) is ∙ forgotten_nothing (facts_of s (line.Answered a i given) k).touch k.files refl refl) h

  behind_arm : (a i : ℕ) → now ≡ kept_after s (line.World a (world_event.Arm i)) k → AreOf now.files c
  behind_arm a i is = kept_on now k.files c (ap (λ (x : Kept). x.files) is ∙ forgotten_nothing (facts_of s (line.World a (world_event.Arm i)) k).touch k.files refl refl) h

  pub behind_world : (a : ℕ) (event : WorldEvent) → now ≡ kept_after s (line.World a event) k → AreOf now.files (behind_event event c)
  behind_world a (world_event.Arm i) is = behind_arm a i is
  behind_world a world_event.Out is = record { records = tt; phonebook = tt; fixed = tt }
  behind_world a (world_event.Insert j) is = record { records = tt; phonebook = tt; fixed = tt }

  pub published_line : (l : Line) → is_published l ≡ true → now ≡ kept_after s l k → AreOf now.files c
  published_line (line.Published n f e p text) kind is = behind_published n f e p text is
  published_line (line.Turn a) kind is = absurd (true≢false (sym kind))
  published_line (line.Begin a i) kind is = absurd (true≢false (sym kind))
  published_line (line.Exchange a x r) kind is = absurd (true≢false (sym kind))
  published_line (line.Failed a x d) kind is = absurd (true≢false (sym kind))
  published_line (line.Reset a) kind is = absurd (true≢false (sym kind))
  published_line (line.ResetFailed a) kind is = absurd (true≢false (sym kind))
  published_line (line.World a e) kind is = absurd (true≢false (sym kind))
  published_line (line.EpochEnd n e p) kind is = absurd (true≢false (sym kind))
  published_line (line.Refused f n) kind is = absurd (true≢false (sym kind))
  published_line (line.Answered a i given) kind is = absurd (true≢false (sym kind))

  pub answered_line : (l : Line) → is_answered l ≡ true → now ≡ kept_after s l k → AreOf now.files c
  answered_line (line.Answered a i given) kind is = behind_answer a i given is
  answered_line (line.Turn a) kind is = absurd (true≢false (sym kind))
  answered_line (line.Begin a i) kind is = absurd (true≢false (sym kind))
  answered_line (line.Exchange a x r) kind is = absurd (true≢false (sym kind))
  answered_line (line.Failed a x d) kind is = absurd (true≢false (sym kind))
  answered_line (line.Reset a) kind is = absurd (true≢false (sym kind))
  answered_line (line.ResetFailed a) kind is = absurd (true≢false (sym kind))
  answered_line (line.World a e) kind is = absurd (true≢false (sym kind))
  answered_line (line.Published n f e p text) kind is = absurd (true≢false (sym kind))
  answered_line (line.EpochEnd n e p) kind is = absurd (true≢false (sym kind))
  answered_line (line.Refused f n) kind is = absurd (true≢false (sym kind))

  -- whether there was memory or not
  pub answered_either : {T E : Type 0} (r : Result T E) (l : Line) → is_answered l ≡ true → OnOk r (now ≡ kept_after s l k) → OnErr r (now ≡ k) → AreOf now.files c
  answered_either (Ok x) l kind ok err = answered_line l kind ok
  answered_either (Err e) l kind ok err = kept_on now k.files c (ap (λ (x : Kept). x.files) err) h
