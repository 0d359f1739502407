-- A movie as a command looks at it: that of its file, or of one track alone, or one whose edits say
-- how long its tracks wait. `S` is what a bound says of the store's type.
use Rattle.std.specs.Prelude.{◌≡◌, ℕ, ◌+◌, ◌≤◌, Bool, true, if◌then◌else◌, List, Result, Err, Option, None, Some, IsTrue, IfOk, IfErr}
use Rattle.mp4_boxes.specs.declared.fault.Fault.{Fault}
use Rattle.mp4_boxes.specs.declared.refusal.Refusal.{Refusal}
use Rattle.mp4_boxes.specs.declared.refusal.Refusal.TheVariants as refusals
use Rattle.mp4_store.specs.words.Device.{HasRisen}
use Rattle.mp4_store.specs.declared.store.Store.{Ghosts as Store}
use Rattle.mp4_present.specs.format.ByBytes.{OpensWithin}
use Rattle.mp4_present.specs.format.Denotes.{Denotes, FileTree, presentation_of}
use Rattle.mp4_present.specs.format.Presentation.{Presentation}
use Rattle.mp4_present.specs.words.Movies.{MovieSeen}
use Rattle.mp4_present.specs.words.OneTrack.{only_tree}
use Rattle.mp4_present.specs.words.OpenedMovie.{IsOpenedAs}
use Rattle.mp4_present.specs.words.StoresRead.{IsUnchanged}
use Rattle.mp4_present.specs.words.ToldTrees.{IsTold}
use Rattle.mp4_present.specs.words.WalkSteps.{opening_steps, walks_steps}
use Rattle.mp4_present.specs.words.Waits.{NamesLimitOf, RefusesWaits}
use Rattle.mp4_content.specs.format.LeadIns.{told}
use Rattle.mp4_content.specs.words.Delays.{told_waits}
use Rattle.mp4_answers.specs.format.Headline.{DenotesNothing}
use Rattle.mp4_answers.specs.format.Selected.{AreOtherTracks, HasNamed, LacksNamed, alone, alone_tree}
use Rattle.mp4_answers.specs.format.Told.{judge_told}

-- The movie shows what is looked at of the file: of a presentation that it denotes all tracks or
-- one, told how long they wait, if this is true.
pub record IsOpenedTold (track : Option ℕ) (b : Bool) (file : List ℕ) (m : MovieSeen)
    (t : FileTree) : Type 0 where
  pub whole : Presentation
  pub denotes : Denotes file whole
  pub has : HasNamed track whole
  pub opened : IsOpenedAs file m t
  pub is_told : IsTold m.waits (only_tree m.only denotes.tree) t
  pub alone_is : only_tree m.only denotes.tree ≡ alone_tree track denotes.tree
  pub p : Presentation
  pub is : p ≡ alone track whole
  pub says : presentation_of file t ≡ told b p

-- the steps of opening a file so: those of its boxes, and of a walk to find how long tracks wait
abbrev pub told_steps : Bool → FileTree → ℕ
told_steps b tree = opening_steps tree + (if b then walks_steps tree else 0)

-- Where the file denotes nothing, those that its bytes allow.
pub record OpensWithinTold (b : Bool) (file : List ℕ) (old new : ℕ) : Type 0 where
  pub denoted : (p : Presentation) → (d : Denotes file p) → new ≤ old + told_steps b d.tree
  pub refused : DenotesNothing file → OpensWithin file old new

-- Why a file is not opened so: the fault is its first, or that of the first limit that it passes
-- where it is told so; or a track is named that isn't there.
abbrev pub RefusesTold : Option ℕ → Bool → Bool → List ℕ → ℕ → ℕ → Refusal → Type 0
RefusesTold track b honest file reads reads_after (refusals.Fault f) = IsTrue honest
    → judge_told track b file ≡ Err f
RefusesTold track b honest file reads reads_after refusals.Memory = Unit {0}
RefusesTold track b honest file reads reads_after refusals.StoreFailed =
    HasRisen reads reads_after
RefusesTold track b honest file reads reads_after refusals.StoreChanged = IsTrue honest → ⊥
RefusesTold track b honest file reads reads_after refusals.NoSuchTrack =
    LacksNamed track honest file
RefusesTold track b honest file reads reads_after _ = ⊥

-- why an opened movie is not told how long its tracks wait
abbrev pub RefusesTell : ℕ → ℕ → Refusal → Type 0
RefusesTell reads reads_after (refusals.Fault f) = Unit {0}
RefusesTell reads reads_after refusals.Memory = Unit {0}
RefusesTell reads reads_after refusals.StoreFailed = HasRisen reads reads_after
RefusesTell reads reads_after refusals.StoreChanged = Unit {0}
RefusesTell reads reads_after _ = ⊥

-- a fault is that of the first limit that the file passes where its tracks wait so
abbrev pub NamesTold : List ℕ → FileTree → Refusal → Type 0
NamesTold file tree (refusals.Fault f) = (waits : List ℕ)
    × (told_waits (presentation_of file tree) ≡ Some waits)
    × NamesLimitOf file waits tree (refusals.Fault f)
NamesTold file tree _ = Unit {0}

-- the movie shows what was opened, told how long its tracks wait
pub record IsTellingOf (file : List ℕ) (own : MovieSeen) (tree : FileTree) (m : MovieSeen)
    : Type 0 where
  pub t : FileTree
  pub opened : IsOpenedAs file m t
  pub only : m.only ≡ own.only
  pub is_told : IsTold m.waits tree t
  pub says : presentation_of file t ≡ told true (presentation_of file tree)

-- what a movie is told that was opened from this file, and what it takes to find it
pub record TellsOver (file : List ℕ) (own : MovieSeen) (tree : FileTree)
    (result : Result MovieSeen Refusal) (old new : ℕ) : Type 0 where
  pub movie : IfOk result (IsTellingOf file own tree)
  pub fault : IfErr result (NamesTold file tree)
  pub unchanged : IsUnchanged result
  pub work : new ≤ old + walks_steps tree

-- over an honest store that has the file from which the movie was opened
abbrev pub TellsMovie : {X : Type 0} → Store X → X → MovieSeen → Result MovieSeen Refusal → ℕ → ℕ
    → Type 0
TellsMovie S store m result old new = IsTrue (S.is_honest store) → (tree : FileTree)
    → IsOpenedAs (S.file store) m tree → m.waits ≡ None
    → TellsOver (S.file store) m tree result old new

-- ---- one track alone

-- The movie shows what was opened, all of its tracks or that with this ID alone, which is there.
pub record IsAloneOf (track : Option ℕ) (file : List ℕ) (tree : FileTree) (m : MovieSeen)
    : Type 0 where
  pub opened : IsOpenedAs file m (only_tree m.only tree)
  pub own_edits : m.waits ≡ None
  pub is : only_tree m.only tree ≡ alone_tree track tree
  pub has : HasNamed track (presentation_of file tree)

-- why that is not shown: no track has the ID
abbrev pub LacksAlone : Option ℕ → Presentation → Refusal → Type 0
LacksAlone (Some id) p refusals.NoSuchTrack = AreOtherTracks id p
LacksAlone (Some id) p refusals.Memory = Unit {0}
LacksAlone _ p _ = ⊥

-- the same, where nothing is known of the movie
abbrev pub RefusesAlone : Option ℕ → Refusal → Type 0
RefusesAlone (Some id) refusals.NoSuchTrack = Unit {0}
RefusesAlone (Some id) r = RefusesWaits r
RefusesAlone None r = ⊥
