-- A movie as a command looks at it, said of its file.
use Rattle.std.proofs.Common.{◌≡◌, inl, inr, ℕ, zero, suc, Bool, true, false, List, [], ◌∷◌, ◌++◌, length, map, take, Some, refl, sym, ap, subst, ◌∙◌}
use Rattle.std.specs.List.{AllByRecursion}
use Rattle.std.specs.Prelude.{codes, slice_get, if◌then◌else◌, IsTrue, None, Option, Ok, Err, Result, IfErr, IfOk}
use Rattle.mp4_boxes.specs.declared.fault.Fault.{Fault}
use Rattle.mp4_boxes.specs.declared.refusal.Refusal.{Refusal}
use Rattle.mp4_boxes.specs.declared.refusal.Refusal.TheVariants as refusals
use Rattle.mp4_boxes.specs.format.Box.{Box}
use Rattle.mp4_boxes.specs.format.BoxFaults.{fault_of}
use Rattle.mp4_boxes.specs.declared.fault.Kind.TheVariants.{OffsetTooLarge, TimeTooLarge}
use Rattle.mp4_boxes.proofs.Plain.{get_map}
use Rattle.mp4_head.specs.format.Tree.{TrackTree, first_of}
use Rattle.mp4_present.specs.format.Denotes.{FileTree, file_parts, presentation_of, track_of}
use Rattle.mp4_present.specs.format.Presentation.{IsWithinLimits, Presentation, Track, Valid}
use Rattle.mp4_present.specs.format.Waiting.{waiting_all}
use Rattle.mp4_present.specs.words.Movies.{MovieSeen}
use Rattle.mp4_present.specs.words.OneTrack.{only_tree}
use Rattle.mp4_present.specs.words.OpenedMovie.{IsOpenedAs, IsOpenedOwn}
use Rattle.mp4_present.specs.words.Opening.{RefusesOpen}
use Rattle.mp4_present.specs.words.ToldTrees.{AreTracksTold, IsFileTold, IsTold, later_waits}
use Rattle.mp4_present.specs.words.Waits.{NamesLimitOf}
use Rattle.mp4_present.proofs.ToldTrees.{file_denotes, told_presents}
use Rattle.mp4_tables.proofs.GroupWalks.{found_there}
use Rattle.mp4_content.specs.format.LeadIns.{delays_of, left_of, says_beginnings, told, words_told}
use Rattle.mp4_content.specs.format.ReducedTimes.{FailsLeft, IsFaultLeft, IsLeftInTime, IsLeftNear}
use Rattle.mp4_content.specs.words.LeftTimes.{IsTreeFault, TreeLeftInLimits, TreePassesLimits}
use Rattle.mp4_content.specs.format.Remaining.{RemainsInLimits, remaining}
use Rattle.mp4_content.specs.words.Delays.{told_waits}
use Rattle.mp4_content.specs.words.Opened.{RefusesPlan}
use Rattle.mp4_content.specs.declared.without.Without.{Without}
use Rattle.mp4_content.proofs.LeadInsTold.{left_is_told}
use Rattle.mp4_content.proofs.LeadInsValid.{valid_told}
use Rattle.mp4_plan.specs.format.Normal.{normal}
use Rattle.mp4_plan.proofs.Judged.{denoted_judged}
use Rattle.mp4_answers.specs.format.ReducedHeadline.{HasReducedForm, LeftFaultStands}
use Rattle.mp4_answers.specs.format.Selected.{Shows, alone, alone_tree}
use Rattle.mp4_answers.specs.format.Told.{IsLeftInLimits, judge_told}
use Rattle.mp4_answers.specs.words.OpenedTold.{IsAloneOf, IsOpenedTold, IsTellingOf, LacksAlone, NamesTold, RefusesAlone, RefusesTell, RefusesTold, TellsOver}
use Rattle.mp4_answers.specs.declared.selection.Selection.{Selection}
use Rattle.mp4_answers.proofs.Alone.{alone_valid, presents_alone}
use Rattle.mp4_answers.proofs.ShownLines.{judged}
use Rattle.mp4_answers.proofs.ToldFaults.{limit_told, own_fault}

-- ---- what is told

-- how long tracks wait, where edits say no more than when they begin
pub some_told : (p : Presentation) (waits : List ℕ) → told_waits p ≡ Some waits → told true p ≡ waiting_all waits p
some_told p waits = by (says_beginnings p) refl
  where
    by : (b : Bool) → says_beginnings p ≡ b → (if b then Some (delays_of p) else None) ≡ Some waits → told true p ≡ waiting_all waits p
    by true e is = let same : delays_of p ≡ waits = cc in rw e (ap (λ (ws : List ℕ). waiting_all ws p) same)
    by false e is = absurd cc

-- and nothing where they say more
pub none_told : (p : Presentation) → told_waits p ≡ None → told true p ≡ p
none_told p = by (says_beginnings p) refl
  where
    by : (b : Bool) → says_beginnings p ≡ b → (if b then Some (delays_of p) else None) ≡ None → told true p ≡ p
    by true e is = absurd cc
    by false e is = rw e refl

-- ---- a movie that is not told anything

pub own_told : (file : List ℕ) (m : MovieSeen) (tree : FileTree) → IsOpenedOwn file m tree → IsOpenedTold None false file m tree
own_told file m tree o = record {
  whole = presentation_of file tree;
  denotes = file_denotes file m tree o;
  has = tt;
  opened = o.opened;
  is_told = subst (λ (only : Option ℕ). IsTold m.waits (only_tree only tree) tree) (sym o.own_tracks) (subst (λ (waits : Option (List ℕ)). IsTold waits tree tree) (sym o.own_edits) refl);
  alone_is = ap (λ (only : Option ℕ). only_tree only tree) o.own_tracks;
  p = presentation_of file tree;
  is = refl;
  says = refl;
}

-- or of one track alone
pub alone_told : (track : Option ℕ) (file : List ℕ) (own m : MovieSeen) (tree : FileTree) → IsOpenedOwn file own tree → IsAloneOf track file tree m → IsOpenedTold track false file m (only_tree m.only tree)
alone_told track file own m tree o a = record {
  whole = presentation_of file tree;
  denotes = file_denotes file own tree o;
  has = a.has;
  opened = a.opened;
  is_told = subst (λ (waits : Option (List ℕ)). IsTold waits (only_tree m.only tree) (only_tree m.only tree)) (sym a.own_edits) refl;
  alone_is = a.is;
  p = alone track (presentation_of file tree);
  is = refl;
  says = ap (presentation_of file) a.is ∙ presents_alone file track tree;
}

-- ---- a movie that is

pub movie_told : (track : Option ℕ) (file : List ℕ) (own m n : MovieSeen) (tree : FileTree) → IsOpenedOwn file own tree → IsAloneOf track file tree m → (h : IsTellingOf file m (only_tree m.only tree) n) → IsOpenedTold track true file n h.t
movie_told track file own m n tree o a h =
    let same : only_tree m.only tree ≡ only_tree n.only tree = ap (λ (only : Option ℕ). only_tree only tree) (sym h.only) in
    record {
      whole = presentation_of file tree;
      denotes = file_denotes file own tree o;
      has = a.has;
      opened = h.opened;
      is_told = subst (λ (u : FileTree). IsTold n.waits u h.t) same h.is_told;
      alone_is = sym same ∙ a.is;
      p = alone track (presentation_of file tree);
      is = refl;
      says = h.says ∙ ap (told true) (ap (presentation_of file) a.is ∙ presents_alone file track tree);
    }

-- the limit that it passes
pub limit_named : (track : Option ℕ) (file : List ℕ) (own m : MovieSeen) (tree : FileTree) (f : Fault) → IsOpenedOwn file own tree → IsAloneOf track file tree m → NamesTold file (only_tree m.only tree) (refusals.Fault f) → judge_told track true file ≡ Err f
limit_named track file own m tree f o a (waits, is, (t, told_so, (head, says, fails))) =
    let u = only_tree m.only tree in
    limit_told track file (presentation_of file tree) (file_denotes file own tree o) waits t head f (subst (λ (x : FileTree). IsFileTold waits x t) a.is told_so) says fails
    (told_presents waits file u t told_so ∙ sym (some_told (presentation_of file u) waits is) ∙ ap (told true) (ap (presentation_of file) a.is ∙ presents_alone file track tree))

-- what is told of an opened movie, by what its parts promise
module _ (file : List ℕ) (tree : FileTree) where
  pub not_found_told : (reads reads_after : ℕ) (e : Refusal) → RefusesPlan reads reads_after e → NamesTold file tree e
  not_found_told reads reads_after (refusals.Fault f) w = absurd w
  not_found_told reads reads_after refusals.Memory w = tt
  not_found_told reads reads_after refusals.StoreFailed w = tt
  not_found_told reads reads_after refusals.StoreChanged w = tt
  not_found_told reads reads_after refusals.WriteFailed w = tt
  not_found_told reads reads_after refusals.NoSuchTrack w = tt

  pub untold : (m : MovieSeen) → IsOpenedAs file m tree → m.waits ≡ None → told_waits (presentation_of file tree) ≡ None → IsTellingOf file m tree m
  untold m o own none = record {
    t = tree;
    opened = o;
    only = refl;
    is_told = subst (λ (waits : Option (List ℕ)). IsTold waits tree tree) (sym own) refl;
    says = sym (none_told (presentation_of file tree) none);
  }

  module _ (m : MovieSeen) (waits : List ℕ) (is : told_waits (presentation_of file tree) ≡ Some waits) where
    pub told_made : (result : Result MovieSeen Refusal) → IfOk result (λ n. (t : FileTree) × IsOpenedAs file n t × IsFileTold waits tree t × (presentation_of file t ≡ waiting_all waits (presentation_of file tree))) → IfOk result (λ n. n ≡ record m { waits = Some waits; mehd = n.mehd })
        → IfOk result (IsTellingOf file m tree)
    told_made (Ok n) (t, opened, told_so, says) kept = record {
      t = t;
      opened = opened;
      only = ap (λ (x : MovieSeen). x.only) kept;
      is_told = subst (λ (ws : Option (List ℕ)). IsTold ws tree t) (ap (λ (x : MovieSeen). x.waits) (sym kept)) told_so;
      says = says ∙ sym (some_told (presentation_of file tree) waits is);
    }
    told_made (Err e) made kept = tt

    names : (e : Refusal) → NamesLimitOf file waits tree e → NamesTold file tree e
    names (refusals.Fault f) n = (waits, is, n)
    names refusals.Memory n = tt
    names refusals.StoreFailed n = tt
    names refusals.StoreChanged n = tt
    names refusals.WriteFailed n = tt
    names refusals.NoSuchTrack n = tt

    pub told_names : {T : Type 0} (result : Result T Refusal) → IfErr result (NamesLimitOf file waits tree) → IfErr result (NamesTold file tree)
    told_names (Ok x) n = tt
    told_names (Err e) n = names e n

-- ---- a file that is opened so

pub open_refuses : (track : Option ℕ) (b honest : Bool) (file : List ℕ) (reads reads_after : ℕ) (e : Refusal) → RefusesOpen honest file reads reads_after e → RefusesTold track b honest file reads reads_after e
open_refuses track b honest file reads reads_after (refusals.Fault f) w = λ told. own_fault track b file f (w told)
open_refuses track b honest file reads reads_after refusals.Memory w = w
open_refuses track b honest file reads reads_after refusals.StoreFailed w = w
open_refuses track b honest file reads reads_after refusals.StoreChanged w = w
open_refuses track b honest file reads reads_after refusals.WriteFailed w = absurd w
open_refuses track b honest file reads reads_after refusals.NoSuchTrack w = absurd w

-- a file that is opened, but not of one track
module _ (b honest : Bool) (file : List ℕ) (own : MovieSeen) (opened : IsTrue honest → (tree : FileTree) × IsOpenedOwn file own tree) (reads reads_after : ℕ) where
  pub alone_refuses : (track : Option ℕ) (e : Refusal) → ((f : List ℕ) (tree : FileTree) → IsOpenedOwn f own tree → LacksAlone track (presentation_of f tree) e) → RefusesAlone track e → RefusesTold track b honest file reads reads_after e
  alone_refuses None e lacks w = absurd w
  alone_refuses (Some id) (refusals.Fault f) lacks w = λ told. absurd (lacks file (opened told).0 (opened told).1)
  alone_refuses (Some id) refusals.Memory lacks w = tt
  alone_refuses (Some id) refusals.StoreFailed lacks w = absurd w
  alone_refuses (Some id) refusals.StoreChanged lacks w = λ told. lacks file (opened told).0 (opened told).1
  alone_refuses (Some id) refusals.WriteFailed lacks w = absurd w
  alone_refuses (Some id) refusals.NoSuchTrack lacks w = λ told.
      let o = opened told in
      (presentation_of file o.0, judged file own o.0 o.1, lacks file o.0 o.1)

module _ (track : Option ℕ) (b : Bool) (asked : b ≡ true) (honest : Bool) (file : List ℕ) (own m : MovieSeen) (opened : IsTrue honest → (tree : FileTree) × IsOpenedOwn file own tree) (alone_of : (f : List ℕ) (tree : FileTree) → IsOpenedOwn f own tree → IsAloneOf track f tree m)
    (result : Result MovieSeen Refusal) (old new : ℕ) (tells : IsTrue honest → (tree : FileTree) → IsOpenedAs file m tree → m.waits ≡ None → TellsOver file m tree result old new) where
  of_file : (told : IsTrue honest) → IsAloneOf track file (opened told).0 m
  of_file told = alone_of file (opened told).0 (opened told).1

  pub tells_here : (told : IsTrue honest) → TellsOver file m (only_tree m.only (opened told).0) result old new
  tells_here told = let a = of_file told in tells told (only_tree m.only (opened told).0) a.opened a.own_edits

  movie_at : (n : MovieSeen) → ((told : IsTrue honest) → IsTellingOf file m (only_tree m.only (opened told).0) n) → IsTrue honest → (t : FileTree) × IsOpenedTold track b file n t
  movie_at n made honestly =
      let o = opened honestly in
      let h = made honestly in
      (h.t, subst (λ x. IsOpenedTold track x file n h.t) (sym asked) (movie_told track file own m n o.0 o.1 (of_file honestly) h))

  fault_at : (f : Fault) → ((told : IsTrue honest) → NamesTold file (only_tree m.only (opened told).0) (refusals.Fault f)) → IsTrue honest → judge_told track b file ≡ Err f
  fault_at f named honestly = let o = opened honestly in subst (λ x. judge_told track x file ≡ Err f) (sym asked) (limit_named track file own m o.0 f o.1 (of_file honestly) (named honestly))

pub opened_over : (track : Option ℕ) (b : Bool) → b ≡ true → (honest : Bool) (file : List ℕ) (own m : MovieSeen) (opened : IsTrue honest → (tree : FileTree) × IsOpenedOwn file own tree) → ((f : List ℕ) (tree : FileTree) → IsOpenedOwn f own tree → IsAloneOf track f tree m)
    → (result : Result MovieSeen Refusal) (old new : ℕ) → (IsTrue honest → (tree : FileTree) → IsOpenedAs file m tree → m.waits ≡ None → TellsOver file m tree result old new)
    → IfOk result (λ n. IsTrue honest → (t : FileTree) × IsOpenedTold track b file n t)
opened_over track b asked honest file own m opened of (Ok n) old new tells = movie_at track b asked honest file own m opened of (Ok n) old new tells n (λ honestly. (tells_here track b asked honest file own m opened of (Ok n) old new tells honestly).movie)
opened_over track b asked honest file own m opened of (Err e) old new tells = tt

pub tell_refuses : (track : Option ℕ) (b : Bool) → b ≡ true → (honest : Bool) (file : List ℕ) (own m : MovieSeen) (opened : IsTrue honest → (tree : FileTree) × IsOpenedOwn file own tree) → ((f : List ℕ) (tree : FileTree) → IsOpenedOwn f own tree → IsAloneOf track f tree m)
    → (result : Result MovieSeen Refusal) (old new : ℕ) → (IsTrue honest → (tree : FileTree) → IsOpenedAs file m tree → m.waits ≡ None → TellsOver file m tree result old new)
    → (reads reads_after : ℕ) → IfErr result (RefusesTell reads reads_after) → IfErr result (RefusesTold track b honest file reads reads_after)
tell_refuses track b asked honest file own m opened of (Ok n) old new tells reads reads_after w = tt
tell_refuses track b asked honest file own m opened of (Err (refusals.Fault f)) old new tells reads reads_after w = fault_at track b asked honest file own m opened of (Err (refusals.Fault f)) old new tells f (λ honestly. (tells_here track b asked honest file own m opened of (Err
    (refusals.Fault f)) old new tells honestly).fault)
tell_refuses track b asked honest file own m opened of (Err refusals.Memory) old new tells reads reads_after w = w
tell_refuses track b asked honest file own m opened of (Err refusals.StoreFailed) old new tells reads reads_after w = w
tell_refuses track b asked honest file own m opened of (Err refusals.StoreChanged) old new tells reads reads_after w = λ honestly. (tells_here track b asked honest file own m opened of (Err refusals.StoreChanged) old new tells honestly).unchanged refl
tell_refuses track b asked honest file own m opened of (Err refusals.WriteFailed) old new tells reads reads_after w = absurd w
tell_refuses track b asked honest file own m opened of (Err refusals.NoSuchTrack) old new tells reads reads_after w = absurd w

-- ---- the first track of which what is left has no normal form

boxes_told : (waits : List ℕ) (us ts : List TrackTree) → AreTracksTold waits us ts → (k : ℕ) (x : TrackTree) → slice_get ts k ≡ Some x → (u : TrackTree) × (slice_get us k ≡ Some u) × (x.track ≡ u.track)
boxes_told waits [] [] told_so k x e = absurd cc
boxes_told waits [] (t ∷ ts) told_so k x e = absurd told_so
boxes_told waits (u ∷ us) [] told_so k x e = absurd told_so
boxes_told waits (u ∷ us) (t ∷ ts) told_so zero x e =
    let same : t ≡ x = cc in
    (u, refl, ap (λ (y : TrackTree). y.track) (sym same ∙ told_so.0.is))
boxes_told waits (u ∷ us) (t ∷ ts) told_so (suc k) x e = boxes_told (later_waits waits) us ts told_so.1 k x e

own_boxes : (waits : Option (List ℕ)) (own t : FileTree) → IsTold waits own t → (k : ℕ) (x : TrackTree) → slice_get t.movie.tracks k ≡ Some x → (u : TrackTree) × (slice_get own.movie.tracks k ≡ Some u) × (x.track ≡ u.track)
own_boxes None own t same k x e = (x, ap (λ (y : FileTree). slice_get y.movie.tracks k) (sym same) ∙ e, refl)
own_boxes (Some waits) own t told_so k x e = boxes_told waits own.movie.tracks t.movie.tracks told_so.movie.tracks k x e

all_before : {A B : Type 0} (g : A → B) (P : A → Type 0) (Q : B → Type 0) → ((y : A) → P y → Q (g y)) → (before after : List A) (x : A) → AllByRecursion P before → AllByRecursion Q (take (length before) (map g (before ++ x ∷ after)))
all_before g P Q f [] after x h = tt
all_before g P Q f (y ∷ before) after x h = (f y h.0, all_before g P Q f before after x h.1)

fault_named : (l : Without) (file : List ℕ) (tree : FileTree) (x u : TrackTree) (f : Fault) → x.track ≡ u.track → IsTreeFault l file tree x f → IsFaultLeft l (presentation_of file tree) (track_of file (file_parts tree) x) u f
fault_named l file tree x u f same (inl h) = inl (h.0, h.1 ∙ ap (λ (boxes : List Box). fault_of TimeTooLarge (first_of (codes "tkhd") boxes)) same)
fault_named l file tree x u f same (inr h) = inr (h.0, h.1, h.2 ∙ ap (λ (boxes : List Box). fault_of OffsetTooLarge (first_of (codes "tkhd") boxes)) same)

fails_left : (l : Without) (file : List ℕ) (waits : Option (List ℕ)) (own tree : FileTree) (f : Fault) → IsTold waits own tree → TreePassesLimits l file tree f → FailsLeft l (presentation_of file tree) (presentation_of file tree).tracks own.movie.tracks f
fails_left l file waits own tree f is x =
    let g = track_of file (file_parts tree) in
    let p = presentation_of file tree in
    let at = ap (λ (ts : List TrackTree). slice_get ts (length x.before)) x.tracks ∙ found_there x.before x.after x.t in
    let u = own_boxes waits own tree is (length x.before) x.t at in
    record {
      place = length x.before;
      t = g x.t;
      its = u.0;
      is_there = get_map g tree.movie.tracks (length x.before) x.t at;
      has_boxes = u.1;
      before = subst (λ (ts : List TrackTree). AllByRecursion (λ (t : Track). IsLeftInTime l p t × IsLeftNear l p t) (take (length x.before) (map g ts))) (sym x.tracks)
          (all_before g (TreeLeftInLimits l file tree) (λ (t : Track). IsLeftInTime l p t × IsLeftNear l p t) (λ t h. h) x.before x.after x.t x.in_limits);
      named = fault_named l file tree x.t u.0 f u.2 x.named;
    }

-- ---- what is left

module _ (s : Selection) (file : List ℕ) (m : MovieSeen) (tree : FileTree) (o : IsOpenedTold s.track s.leaving.lead_ins file m tree) where
  abbrev l : Without
  l = s.leaving

  pub shows_told : Shows s.track file o.p
  shows_told = record { whole = o.whole; judged = denoted_judged file o.whole o.denotes; has = o.has; is = o.is }

  pub left_is : remaining (words_told l) (presentation_of file tree) ≡ left_of l o.p
  left_is = ap (remaining (words_told l)) o.says ∙ sym (left_is_told l o.p)

  pub shown_limits : IsWithinLimits (told l.lead_ins o.p)
  shown_limits = subst IsWithinLimits o.says o.opened.limits

  pub limits_told : RemainsInLimits (words_told l) (presentation_of file tree) → IsLeftInLimits l o.p
  limits_told r = record { shown = shown_limits; left = subst (RemainsInLimits (words_told l)) o.says r }

  pub form_told : RemainsInLimits (words_told l) (presentation_of file tree) → HasReducedForm s file (normal (remaining (words_told l) (presentation_of file tree)))
  form_told r = (o.p, shows_told, limits_told r, ap normal left_is)

  pub fault_told : (f : Fault) → TreePassesLimits (words_told l) file tree f → LeftFaultStands s file f
  fault_told f passes =
      let fails = fails_left (words_told l) file m.waits (only_tree m.only o.denotes.tree) tree f o.is_told passes in
      record {
        whole = o.whole;
        denotes = o.denotes;
        has = o.has;
        p = o.p;
        is = o.is;
        shown = shown_limits;
        fails = subst (λ (q : Presentation). FailsLeft (words_told l) q q.tracks (alone_tree s.track o.denotes.tree).movie.tracks f) o.says
            (subst (λ (u : FileTree). FailsLeft (words_told l) (presentation_of file tree) (presentation_of file tree).tracks u.movie.tracks f) o.alone_is fails);
      }

  pub shown_valid : Valid o.whole → Valid (presentation_of file tree)
  shown_valid v = subst Valid (sym o.says) (by l.lead_ins shown_limits)
    where
      own : Valid o.p
      own = subst Valid (sym o.is) (alone_valid s.track o.whole v)

      by : (b : Bool) → IsWithinLimits (told b o.p) → Valid (told b o.p)
      by true limits = valid_told o.p own limits
      by false limits = own
