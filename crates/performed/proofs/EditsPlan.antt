-- The places of a plan's updates, and what the files are before each of them.
use Rattle.std.proofs.Common.{◌≡◌, ℕ, suc, ◌-◌, ◌||◌, not, Bool, true, false, Option, Some, None, Result, Ok, Err, IfOk, List, refl, sym, ap, ◌∙◌, subst}
use Rattle.std.specs.Prelude.{slice_get, nat_lt, option_map, drop}
use Rattle.fcp.specs.Content.{Content, is_linear}
use Rattle.adn.specs.declared.entry.BookRow.{BookRow}
use Rattle.adn.specs.declared.edit.Edit.{Edit}
use Rattle.adn.specs.declared.edit.Edit.TheVariants.{Set, Clear}
use Rattle.adn.specs.declared.edit.RowUpdate.{RowUpdate}
use Rattle.adn.specs.declared.edit.Plan.{Plan}
use Rattle.adn.specs.declared.edit.PlanError.{PlanError}
use Rattle.adn.specs.declared.edit.PlanError.TheVariants.{BadFile}
use Rattle.adn.specs.Book.{footer_len}
use Rattle.families.specs.Plans.{edited, plan_edit, plan_updates, plan_at, set_plan, clear_plan, planned_after, released_extension, released_bytes, extension_bytes, update_of, row_to_edit, name_bytes, digit_bytes, extension_for, has_plus, ◌>>=◌}
use Rattle.book_plans.specs.Phonebook.{Files}
use Rattle.book_plans.specs.Law.{book_of, written, written_some, decided, Makes, HasText, PlansMakeEdits}

-- ---- places

-- before the deciding update, that update, and behind it
pub data Place : Type 0 where
  front : Place
  middle : Place
  back : Place

abbrev pub update_at : Plan → Place → Option RowUpdate
update_at p front = p.before
update_at p middle = Some p.deciding
update_at p back = p.after

abbrev pub counted : Option RowUpdate → ℕ
counted None = 0
counted (Some u) = 1

-- how many updates stand before it
abbrev pub sent_at : Plan → Place → ℕ
sent_at p front = 0
sent_at p middle = counted p.before
sent_at p back = suc (counted p.before)

abbrev pub is_back : Place → Bool
is_back front = false
is_back middle = false
is_back back = true

-- the files with the updates before it written
abbrev pub files_at : Files → Plan → Place → Files
files_at old p front = old
files_at old p middle = written_some old p.before
files_at old p back = decided old p

pub next_at : (p : Plan) (place : Place) (u : RowUpdate) → update_at p place ≡ Some u → slice_get (plan_updates p) (sent_at p place) ≡ Some u
next_at p front u h = by_before p.before h
  where
    by_before : (o : Option RowUpdate) → o ≡ Some u → slice_get (plan_updates (record p { before = o })) 0 ≡ Some u
    by_before None e = absurd (cc)
    by_before (Some v) e = e
next_at p middle u h = by_before p.before
  where
    by_before : (o : Option RowUpdate) → slice_get (plan_updates (record p { before = o })) (counted o) ≡ Some u
    by_before None = h
    by_before (Some v) = h
next_at p back u h = by_before p.before p.after h
  where
    by_before : (o a : Option RowUpdate) → a ≡ Some u → slice_get (plan_updates (record p { before = o; after = a })) (suc (counted o)) ≡ Some u
    by_before o None e = absurd (cc)
    by_before None (Some v) e = e
    by_before (Some x) (Some v) e = e

-- none stands behind the last
pub none_behind : (p : Plan) → p.after ≡ None → slice_get (plan_updates p) (suc (counted p.before)) ≡ None
none_behind p h = by_before p.before p.after h
  where
    by_before : (o a : Option RowUpdate) → a ≡ None → slice_get (plan_updates (record p { before = o; after = a })) (suc (counted o)) ≡ None
    by_before None None e = refl
    by_before (Some x) None e = refl
    by_before o (Some v) e = absurd (cc)

pub none_further : (p : Plan) (u : RowUpdate) → p.after ≡ Some u → slice_get (plan_updates p) (suc (suc (counted p.before))) ≡ None
none_further p u h = by_before p.before p.after h
  where
    by_before : (o a : Option RowUpdate) → a ≡ Some u → slice_get (plan_updates (record p { before = o; after = a })) (suc (suc (counted o))) ≡ None
    by_before o None e = absurd (cc)
    by_before None (Some v) e = refl
    by_before (Some x) (Some v) e = refl

-- a plan has an update
pub record HasFirst (p : Plan) : Type 0 where
  pub place : Place
  pub update : RowUpdate
  pub at : update_at p place ≡ Some update
  pub sent : sent_at p place ≡ 0
  pub undecided : is_back place ≡ false
  pub files : (old : Files) → files_at old p place ≡ old

pub has_first : (p : Plan) → HasFirst p
has_first p = by_before p.before refl
  where
    by_before : (o : Option RowUpdate) → p.before ≡ o → HasFirst p
    by_before None e = record { place = middle; update = p.deciding; at = refl; sent = ap counted e; undecided = refl; files = λ old. ap (written_some old) e }
    by_before (Some u) e = record { place = front; update = u; at = e; sent = refl; undecided = refl; files = λ old. refl }

-- ---- which file an update writes

-- the deciding update alone writes the main file
pub record WritesFiles (p : Plan) : Type 0 where
  pub before : (u : RowUpdate) → p.before ≡ Some u → u.file ≡ 1
  pub deciding : p.deciding.file ≡ 0
  pub after : (u : RowUpdate) → p.after ≡ Some u → u.file ≡ 1

bound : {A : Type 0} (r : Result A PlanError) (f : A → Result Plan PlanError) (p : Plan) → (r >>= f) ≡ Ok p → (x : A) × (f x ≡ Ok p)
bound (Ok x) f p h = (x, h)
bound (Err e) f p h = absurd (cc)

freed_file : (main ext : Content) (at : ℕ) (u : RowUpdate) → planned_after main ext at ≡ Some u → u.file ≡ 1
freed_file main ext at u h = by_row (released_extension main ext at) h
  where
    by_row : (o : Option ℕ) → option_map (λ number. update_of 1 number (released_bytes ext.width)) o ≡ Some u → u.file ≡ 1
    by_row None e = absurd (cc)
    by_row (Some n) e = let same : update_of 1 n (released_bytes ext.width) ≡ u = cc in ap (λ (x : RowUpdate). x.file) (sym same)

clear_files : (main ext : Content) (at : ℕ) → WritesFiles (clear_plan main ext at)
clear_files main ext at = record { before = λ u h. absurd (cc); deciding = refl; after = freed_file main ext at }

set_files : (main ext : Content) (at : ℕ) (name : List ℕ) (international : Bool) (bytes : List ℕ) (extension : Option ℕ) → WritesFiles (set_plan main ext at name international bytes extension)
set_files main ext at name international bytes extension = record { before = by_row extension; deciding = refl; after = freed_file main ext at }
  where
    by_row : (o : Option ℕ) (u : RowUpdate) → option_map (λ number. update_of 1 number (extension_bytes ext.width (drop 10 bytes))) o ≡ Some u → u.file ≡ 1
    by_row None u e = absurd (cc)
    by_row (Some n) u e = let same : update_of 1 n (extension_bytes ext.width (drop 10 bytes)) ≡ u = cc in ap (λ (x : RowUpdate). x.file) (sym same)

abbrev made : Plan → Result Plan PlanError
made x = Ok x

of_plan : (x p : Plan) → made x ≡ made p → WritesFiles x → WritesFiles p
of_plan x p h t = let same : x ≡ p = cc in subst WritesFiles same t

at_files : (main ext : Content) (e : Edit) (at : ℕ) (p : Plan) → plan_at main ext e at ≡ Ok p → WritesFiles p
at_files main ext (Clear stated) at p h = of_plan (clear_plan main ext at) p h (clear_files main ext at)
at_files main ext (Set stated entry) at p h =
    let n = bound (name_bytes (main.width - footer_len) entry.name) _ p h in
    let d = bound (digit_bytes entry.number) _ p n.1 in
    let x = bound (extension_for main ext d.0) _ p d.1 in
    of_plan (set_plan main ext at n.0 (has_plus entry.number) d.0 x.0) p x.1 (set_files main ext at n.0 (has_plus entry.number) d.0 x.0)

pub plan_files : (e : Edit) (main ext : Content) (p : Plan) → plan_edit e main ext ≡ Ok p → WritesFiles p
plan_files e main ext p h = by_form (not (is_linear main.kind) || nat_lt main.width footer_len) h
  where
    by_form : (b : Bool) → elim b as (λ b. Result Plan PlanError) [ true ↦ Err (BadFile main.width) | false ↦ (row_to_edit main ext e >>= plan_at main ext e) ] ≡ Ok p → WritesFiles p
    by_form true q = absurd (cc)
    by_form false q = let t = bound (row_to_edit main ext e) (plan_at main ext e) p q in at_files main ext e t.0 p t.1

-- ---- what an update does to the book

pub makes_of : PlansMakeEdits → (e : Edit) (old : Files) (p : Plan) → HasText e → plan_edit e old.main old.ext ≡ Ok p → Makes old e p
makes_of law e old p text h = subst (λ (r : Result Plan PlanError). IfOk r (Makes old e)) h (law e old text)

module _ (e : Edit) (old : Files) (p : Plan) (m : Makes old e p) where
  -- the files behind the update of a place
  abbrev pub behind : Place → RowUpdate → Files
  behind place u = written (files_at old p place) u

  front_is : (u : RowUpdate) → p.before ≡ Some u → files_at old p middle ≡ behind front u
  front_is u h = ap (written_some old) h

  back_is : (u : RowUpdate) → p.after ≡ Some u → written_some (decided old p) p.after ≡ behind back u
  back_is u h = ap (written_some (decided old p)) h

  -- the deciding one makes the edited book
  pub book_edited : book_of (behind middle p.deciding) ≡ edited (book_of (files_at old p middle)) e
  book_edited = m.deciding ∙ ap (λ (b : List BookRow). edited b e) (sym m.before)

  -- the others leave the book
  pub front_kept : (u : RowUpdate) → p.before ≡ Some u → book_of (behind front u) ≡ book_of (files_at old p front)
  front_kept u h = ap book_of (sym (front_is u h)) ∙ m.before

  pub back_kept : (u : RowUpdate) → p.after ≡ Some u → book_of (behind back u) ≡ book_of (files_at old p back)
  back_kept u h = ap book_of (sym (back_is u h)) ∙ m.after ∙ sym m.deciding
