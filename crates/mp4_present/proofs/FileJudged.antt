-- What was found of a file, part by part, is its answer by the definition.
use Rattle.std.proofs.Common.{◌≡◌, ℕ, ◌+◌, ◌-◌, ◌≤◌, Bool, List, [], Option, Some, None, Result, Ok, Err, length, refl, sym, ap, ◌∙◌, arith}
use Rattle.std.specs.Prelude.{codes, IsTrue}
use Rattle.std.specs.List.{AllByRecursion}
use Rattle.mp4_boxes.specs.format.Bytes.{sum_of}
use Rattle.mp4_boxes.specs.format.Box.{Box, file_container}
use Rattle.mp4_boxes.specs.format.Children.{of_kind}
use Rattle.mp4_boxes.specs.format.Places.{ruled}
use Rattle.mp4_boxes.specs.format.FirstFault.{first_failed, unless_failed, and_then, top_or_fault}
use Rattle.mp4_boxes.specs.declared.rule.Rule.TheVariants.{Movie}
use Rattle.mp4_boxes.specs.declared.fault.Fault.{Fault}
use Rattle.mp4_boxes.specs.declared.refusal.Refusal.{Refusal}
use Rattle.mp4_boxes.specs.declared.refusal.Refusal.TheVariants as refusals
use Rattle.mp4_frag.specs.format.Fragments.{FragmentTree}
use Rattle.mp4_present.specs.words.TablesFirst.{RefusedFirst}
use Rattle.mp4_frag.specs.declared.state.TrackState.{TrackState}
use Rattle.mp4_head.specs.format.FirstFault.{fault_within, depth, head_or_fault, movie_tree_of}
use Rattle.mp4_head.specs.format.Tree.{MovieTree, first_of}
use Rattle.mp4_head.specs.words.FaultNamed.{RefusesFirst}
use Rattle.mp4_head.specs.words.Found.{SaysHead}
use Rattle.mp4_head.specs.words.Refuses.{place_of}
use Rattle.mp4_head.specs.declared.heads.MovieHead.{MovieHead}
use Rattle.mp4_present.specs.format.Denotes.{FileTree, presentation_of}
use Rattle.mp4_present.specs.format.Judge.{count_of, tables_tests, moofs_or_fault, limit_tests, tree_or_fault, judge}
use Rattle.mp4_present.specs.format.Presentation.{Presentation, IsInTime, max_samples, max_moov, normal_moov_length}
use Rattle.mp4_present.specs.format.Stands.{table_total}
use Rattle.mp4_present.specs.words.FileJudged.{RefusesJudged}
use Rattle.mp4_present.specs.words.Measured.{LimitFails}
use Rattle.mp4_present.specs.words.Opening.{RefusesOpen}
use Rattle.mp4_present.specs.words.Refusing.{RefusesSearch}
use Rattle.mp4_present.specs.words.MoofsJudged.{PassesMoofs, RefusesMoofs}
use Rattle.mp4_present.specs.words.Reading.{RefusesRead}
use Rattle.mp4_present.specs.words.TopJudged.{RefusesTop}
use Rattle.mp4_present.specs.declared.opening.outline.Outline.{Outline}
use Rattle.mp4_present.proofs.BoxesJudged.{top_are}
use Rattle.mp4_present.proofs.LimitsJudged.{limits_fine, limits_first, read_named}
use Rattle.mp4_present.proofs.MovieJudged.{movie_is}
use Rattle.mp4_present.proofs.Opened.{IsRead, its_moov, tracks_read}
use Rattle.mp4_present.proofs.FirstKept.{first_kept}

-- ---- one answer behind another

-- behind an answer that is Ok
ok_then : {A B F : Type 0} (r : Result A F) (next : A → Result B F) (x : A) → r ≡ Ok x → and_then r next ≡ next x
ok_then r next x e = ap (λ y. and_then y next) e

-- behind a fault
err_then : {A B F : Type 0} (r : Result A F) (next : A → Result B F) (f : F) → r ≡ Err f → and_then r next ≡ Err f
err_then r next f e = ap (λ y. and_then y next) e

-- where no test fails
none_then : {A F : Type 0} (o : Option F) (next : Unit {0} → Result A F) → o ≡ None → unless_failed o next ≡ next tt
none_then o next e = ap (λ p. unless_failed p next) e

-- where one does
some_then : {A F : Type 0} (o : Option F) (next : Unit {0} → Result A F) (f : F) → o ≡ Some f → unless_failed o next ≡ Err f
some_then o next f e = ap (λ p. unless_failed p next) e

-- ---- the steps of the definition

-- the answer for a tree
abbrev answer : List ℕ → FileTree → Result Presentation Fault
answer file tree = unless_failed (first_failed (limit_tests tree (presentation_of file tree))) (λ u. Ok (presentation_of file tree))

-- the tree of the parts that were found
abbrev joined : List Box → MovieTree → List FragmentTree → Result FileTree Fault
joined top movie fragments = Ok (record { top = top; movie = movie; fragments = fragments })

-- the answer for the `moof`s, behind the tables
abbrev all_moofs : List ℕ → List Box → MovieTree → Result (List FragmentTree) Fault
all_moofs file top movie = moofs_or_fault (length file) movie (record { parts = []; room = max_samples - sum_of count_of movie.tracks }) (of_kind (codes "moof") top)

-- the answer behind the tables
abbrev behind_tables : List ℕ → List Box → MovieTree → Result FileTree Fault
behind_tables file top movie = and_then (all_moofs file top movie) (joined top movie)

-- the answer behind the head
abbrev behind_head : List ℕ → List Box → MovieTree → Result FileTree Fault
behind_head file top movie = unless_failed (first_failed (tables_tests file max_samples movie.tracks)) (λ u. behind_tables file top movie)

-- the answer behind the own boxes of the file
abbrev behind_top : List ℕ → List Box → Result FileTree Fault
behind_top file top = and_then (head_or_fault (first_of (codes "moov") top)) (behind_head file top)

-- a fault of the file's own boxes
pub top_fails : (file : List ℕ) (f : Fault) → top_or_fault (file_container file) ≡ Err f → judge file ≡ Err f
top_fails file f e = err_then (tree_or_fault file) (answer file) f (err_then (top_or_fault (file_container file)) (behind_top file) f e)

module _ (file : List ℕ) (top : List Box) (e : top_or_fault (file_container file) ≡ Ok top) where
  -- the answer goes on behind the own boxes of the file
  tree_is : tree_or_fault file ≡ behind_top file top
  tree_is = ok_then (top_or_fault (file_container file)) (behind_top file) top e

  -- of its `moov`
  head_fails : (f : Fault) → head_or_fault (first_of (codes "moov") top) ≡ Err f → judge file ≡ Err f
  head_fails f h = err_then (tree_or_fault file) (answer file) f (tree_is ∙ err_then (head_or_fault (first_of (codes "moov") top)) (behind_head file top) f h)

  module _ (movie : MovieTree) (h : head_or_fault (first_of (codes "moov") top) ≡ Ok movie) where
    -- the answer goes on behind the head
    head_is : tree_or_fault file ≡ behind_head file top movie
    head_is = tree_is ∙ ok_then (head_or_fault (first_of (codes "moov") top)) (behind_head file top) movie h

    -- of the tables
    tables_fail : (f : Fault) → first_failed (tables_tests file max_samples movie.tracks) ≡ Some f → judge file ≡ Err f
    tables_fail f t = err_then (tree_or_fault file) (answer file) f (head_is ∙ some_then (first_failed (tables_tests file max_samples movie.tracks)) (λ u. behind_tables file top movie) f t)

    module _ (t : first_failed (tables_tests file max_samples movie.tracks) ≡ None) where
      -- the answer goes on behind the tables
      tables_are : tree_or_fault file ≡ behind_tables file top movie
      tables_are = head_is ∙ none_then (first_failed (tables_tests file max_samples movie.tracks)) (λ u. behind_tables file top movie) t

      -- of the `moof`s
      moofs_fail : (f : Fault) → all_moofs file top movie ≡ Err f → judge file ≡ Err f
      moofs_fail f m = err_then (tree_or_fault file) (answer file) f (tables_are ∙ err_then (all_moofs file top movie) (joined top movie) f m)

      module _ (fragments : List FragmentTree) (m : all_moofs file top movie ≡ Ok fragments) where
        -- the tree
        abbrev tree : FileTree
        tree = record { top = top; movie = movie; fragments = fragments }

        -- the answer is that for the tree
        answer_is : judge file ≡ answer file tree
        answer_is = ok_then (tree_or_fault file) (answer file) tree (tables_are ∙ ok_then (all_moofs file top movie) (joined top movie) fragments m)

        -- of the limits
        limits_fail : (f : Fault) → first_failed (limit_tests tree (presentation_of file tree)) ≡ Some f → judge file ≡ Err f
        limits_fail f l = answer_is ∙ some_then (first_failed (limit_tests tree (presentation_of file tree))) (λ u. Ok (presentation_of file tree)) f l

        -- none
        none_fails : first_failed (limit_tests tree (presentation_of file tree)) ≡ None → judge file ≡ Ok (presentation_of file tree)
        none_fails l = answer_is ∙ none_then (first_failed (limit_tests tree (presentation_of file tree))) (λ u. Ok (presentation_of file tree)) l

-- ---- the `moov` that was read

-- a fault of the `moov` is the answer for its head
head_named : (moov : Box) (f : Fault) → fault_within depth [] (place_of (ruled Movie) moov) ≡ Some f → head_or_fault moov ≡ Err f
head_named moov f e = rw e refl

-- where it has none, the answer is its tree
head_fine : (moov : Box) → fault_within depth [] (place_of (ruled Movie) moov) ≡ None → head_or_fault moov ≡ Ok (movie_tree_of moov)
head_fine moov e = rw e refl

-- the room that is left
left_room : (room total : ℕ) → room + total ≡ max_samples → max_samples - total ≡ room
left_room room total e = omega (arith, e)

module _ (honest : Bool) (file : List ℕ) (o : Outline) (moov : List ℕ) (b : Box) (r : IsRead honest file o moov b) (told : IsTrue honest) (known : List Box) (e : top_or_fault (file_container file) ≡ Ok known) where
  -- the boxes of the file
  abbrev boxes : List Box
  boxes = (r.outline told).0

  -- its boxes are those of the outline
  top_is : top_or_fault (file_container file) ≡ Ok boxes
  top_is = e ∙ ap (λ (bs : List Box). Ok bs) (top_are (file_container file) known boxes e (r.outline told).1.tiles)

  -- the `moov` is the one that was read
  moov_is : first_of (codes "moov") boxes ≡ b
  moov_is = first_kept (codes "moov") boxes b [] (its_moov honest file o moov b r told)

  -- its head is at fault
  pub head_refused : (n : Refusal) → RefusesFirst (fault_within depth [] (place_of (ruled Movie) b)) n → RefusesJudged file n
  head_refused (refusals.Fault f) w = head_fails file boxes top_is f (ap head_or_fault moov_is ∙ head_named b f w)
  head_refused refusals.Memory w = tt
  head_refused refusals.StoreFailed w = tt
  head_refused refusals.StoreChanged w = tt
  head_refused refusals.WriteFailed w = tt
  head_refused refusals.NoSuchTrack w = tt

  module _ (head : MovieHead) (says : SaysHead b head) (sound : fault_within depth [] (place_of (ruled Movie) b) ≡ None) where
    -- the tree of the `moov`
    abbrev movie : MovieTree
    movie = says.has.tree

    -- its head has no fault
    head_there : head_or_fault (first_of (codes "moov") boxes) ≡ Ok movie
    head_there = ap head_or_fault moov_is ∙ head_fine b sound ∙ ap (λ (m : MovieTree). Ok m) (ap movie_tree_of (sym says.has.is_moov) ∙ movie_is movie says.has.is_tree)

    -- a table is
    pub tables_refused : (n : Refusal) → RefusedFirst (λ p. first_failed (tables_tests file max_samples movie.tracks) ≡ p) n → RefusesJudged file n
    tables_refused (refusals.Fault f) w = tables_fail file boxes top_is movie head_there f w
    tables_refused refusals.Memory w = tt
    tables_refused refusals.StoreFailed w = tt
    tables_refused refusals.StoreChanged w = tt
    tables_refused refusals.WriteFailed w = tt
    tables_refused refusals.NoSuchTrack w = tt

    module _ (tables : first_failed (tables_tests file max_samples movie.tracks) ≡ None) (room : ℕ) (left : room + table_total movie.tracks ≡ max_samples) where
      -- the room behind the tables is the room that is left of all
      moofs_are : all_moofs file boxes movie ≡ moofs_or_fault (length file) movie (record { parts = []; room = room }) (of_kind (codes "moof") boxes)
      moofs_are = ap (λ (n : ℕ). moofs_or_fault (length file) movie (record { parts = []; room = n }) (of_kind (codes "moof") boxes)) (left_room room (table_total movie.tracks) left)

      -- a `moof` is
      pub moofs_refused : (n : Refusal) → RefusesMoofs file movie room (of_kind (codes "moof") boxes) n → RefusesJudged file n
      moofs_refused (refusals.Fault f) w = moofs_fail file boxes top_is movie head_there tables f (moofs_are ∙ w)
      moofs_refused refusals.Memory w = tt
      moofs_refused refusals.StoreFailed w = tt
      moofs_refused refusals.StoreChanged w = tt
      moofs_refused refusals.WriteFailed w = tt
      moofs_refused refusals.NoSuchTrack w = tt

      module _ (states : List TrackState) (p : PassesMoofs file movie boxes room states) where
        -- the tree of the file
        abbrev its_tree : FileTree
        its_tree = record { top = boxes; movie = movie; fragments = p.passed.fragments }

        -- a limit is passed
        pub limit_refused : (f : Fault) → LimitFails (presentation_of file its_tree) head b f → judge file ≡ Err f
        limit_refused f q = limits_fail file boxes top_is movie head_there tables p.passed.fragments (moofs_are ∙ p.judged) f (limits_first its_tree (presentation_of file its_tree) head (read_named its_tree.movie.tracks head.tracks.items (tracks_read b head says)) b f says.has.is_moov q)

        -- it denotes this
        pub judged_as : AllByRecursion (IsInTime (presentation_of file its_tree).movie.timescale) (presentation_of file its_tree).tracks → normal_moov_length (presentation_of file its_tree) ≤ max_moov → judge file ≡ Ok (presentation_of file its_tree)
        judged_as times short = none_fails file boxes top_is movie head_there tables p.passed.fragments (moofs_are ∙ p.judged) (limits_fine its_tree (presentation_of file its_tree) times short)

-- ---- what names no fault

-- of the own boxes of the file
pub outline_judged : (file : List ℕ) (n : Refusal) → RefusesTop file n → RefusesJudged file n
outline_judged file (refusals.Fault f) w = top_fails file f w
outline_judged file refusals.Memory w = tt
outline_judged file refusals.StoreFailed w = tt
outline_judged file refusals.StoreChanged w = tt
outline_judged file refusals.WriteFailed w = tt
outline_judged file refusals.NoSuchTrack w = tt

-- a read that failed
pub read_judged : (file : List ℕ) (reads reads_after : ℕ) (n : Refusal) → RefusesRead reads reads_after n → RefusesJudged file n
read_judged file reads reads_after (refusals.Fault f) w = absurd w
read_judged file reads reads_after refusals.Memory w = tt
read_judged file reads reads_after refusals.StoreFailed w = tt
read_judged file reads reads_after refusals.StoreChanged w = tt
read_judged file reads reads_after refusals.WriteFailed w = tt
read_judged file reads reads_after refusals.NoSuchTrack w = tt

-- ---- why a file is not opened

-- by its first fault, where it is that
pub refused_first : (honest : Bool) (file : List ℕ) (reads reads_after : ℕ) (n : Refusal) → RefusesSearch honest reads reads_after n → (IsTrue honest → RefusesJudged file n) → RefusesOpen honest file reads reads_after n
refused_first honest file reads reads_after (refusals.Fault f) w named = named
refused_first honest file reads reads_after refusals.Memory w named = tt
refused_first honest file reads reads_after refusals.StoreFailed w named = w
refused_first honest file reads reads_after refusals.StoreChanged w named = w
refused_first honest file reads reads_after refusals.WriteFailed w named = w
refused_first honest file reads reads_after refusals.NoSuchTrack w named = w

-- by a read that failed
pub unread_first : (honest : Bool) (file : List ℕ) (reads reads_after : ℕ) (n : Refusal) → RefusesRead reads reads_after n → RefusesOpen honest file reads reads_after n
unread_first honest file reads reads_after (refusals.Fault f) w = absurd w
unread_first honest file reads reads_after refusals.Memory w = tt
unread_first honest file reads reads_after refusals.StoreFailed w = w
unread_first honest file reads reads_after refusals.StoreChanged w = absurd w
unread_first honest file reads reads_after refusals.WriteFailed w = absurd w
unread_first honest file reads reads_after refusals.NoSuchTrack w = absurd w
