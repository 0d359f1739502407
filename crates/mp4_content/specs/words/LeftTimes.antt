-- How long tracks are that remain, and why nothing is written where one has no normal form.
use Rattle.std.specs.Prelude.{◌≡◌, ◌⊎◌, ℕ, ◌+◌, ◌-◌, ◌*◌, ◌^◌, ◌||◌, ◌&&◌, not, nat_lt, max, min, Bool, if◌then◌else◌, List, ◌∷◌, ◌++◌, Result, Ok, Err, codes, true, false}
use Rattle.std.specs.Int.{div_ceil}
use Rattle.std.specs.List.{AllByRecursion}
use Rattle.mp4_boxes.specs.format.Bytes.{sum_of}
use Rattle.mp4_boxes.specs.format.BoxFaults.{fault_of}
use Rattle.mp4_boxes.specs.declared.fault.Fault.{Fault}
use Rattle.mp4_boxes.specs.declared.fault.Kind.TheVariants.{OffsetTooLarge, TimeTooLarge}
use Rattle.mp4_boxes.specs.declared.refusal.Refusal.{Refusal}
use Rattle.mp4_boxes.specs.declared.refusal.Refusal.TheVariants as refusals
use Rattle.mp4_head.specs.format.Head.{Edit}
use Rattle.mp4_head.specs.format.Tree.{TrackTree, first_of}
use Rattle.mp4_head.specs.words.Seen.{track_seen}
use Rattle.mp4_head.specs.declared.heads.TrackHead.{TrackHead}
use Rattle.mp4_present.specs.format.Presentation.{IsInTime, Track, max_time, says_all}
use Rattle.mp4_present.specs.format.Denotes.{FileTree, file_parts, presentation_of, track_of}
use Rattle.mp4_content.specs.format.Reduced.{HasNearOffsets, start_left}
use Rattle.mp4_content.specs.declared.without.Without.{Without}
use Rattle.mp4_present.specs.declared.track_info.TrackInfo.{TrackInfo}
use Rattle.mp4_content.specs.format.Remaining.{RemainsInLimits, movie_divisor, remaining_movie, remaining_track}
use Rattle.mp4_content.specs.format.Timescales.{divided}
use Rattle.mp4_content.specs.declared.measures.Total.{Total}

-- How long a track is, whose samples last so long together: by its edits, where there are some and
-- each says how long it is; else by its samples, rounded up, in the movie's timescale.
abbrev pub length_by : List Edit → ℕ → ℕ → ℕ → ℕ
length_by edits timescale own duration = if says_all edits
    then sum_of (λ (e : Edit). e.segment_duration) edits
    else div_ceil (duration * timescale) (max own 1)

-- what is named where a `tkhd` at this place is that of a track that is too long, or whose offsets
-- don't fit
abbrev pub time_fault : ℕ → Fault
time_fault offset = record { kind = TimeTooLarge; box_type = codes "tkhd"; offset = offset }

abbrev pub offset_fault : ℕ → Fault
offset_fault offset = record { kind = OffsetTooLarge; box_type = codes "tkhd"; offset = offset }

abbrev pub is_long : ℕ → ℕ → Bool
is_long end len = nat_lt max_time end || nat_lt max_time len

-- How long a track is that remains, whose head this is, whose own times are divided by this, and of
-- which so much remains; or why it has no normal form.
abbrev pub check_track : Without → ℕ → TrackHead → ℕ → TrackInfo → Total → Result ℕ Fault
check_track l timescale h own info total =
    let len = length_by (track_seen h).edits timescale (track_seen h).media.timescale
    total.duration in
    if is_long (divided own (start_left l info.start) + total.duration) len
    then Err (time_fault h.offset)
    else if l.origins && not total.is_near then Err (offset_fault h.offset) else Ok len

-- The longest of some tracks and of one that is so long; or why the first that has no normal form
-- has none.
abbrev pub check_on : (ℕ → Result ℕ Fault) → Result ℕ Fault → Result ℕ Fault
check_on on (Ok len) = on len
check_on on (Err f) = Err f

abbrev pub check_tracks : Without → ℕ → ℕ → List TrackHead → List ℕ → List TrackInfo
    → List Total → Result ℕ Fault
check_tracks l timescale longest (h ∷ hs) (own ∷ owns) (info ∷ infos) (total ∷ totals) =
    check_on (λ len. check_tracks l timescale (max longest len) hs owns infos totals)
    (check_track l timescale h own info total)
check_tracks l timescale longest _ _ _ _ = Ok longest

-- ---- where timing doesn't count

-- A track whose samples each last a thousandth is as long as its edits, where there are some and
-- each says how long it is, as far as 64 bits go; else it has as many thousandths as samples.
abbrev pub count_by : List Edit → ℕ → ℕ
count_by edits samples = if says_all edits
    then min (sum_of (λ (e : Edit). e.segment_duration) edits) (2 ^ 64 - 1) else samples

-- the longest of some tracks that remain and of one that is so long
abbrev pub longest_count : ℕ → List TrackHead → List TrackInfo → ℕ
longest_count longest (h ∷ heads) (info ∷ tracks) =
    longest_count (max longest (count_by (track_seen h).edits info.samples)) heads tracks
longest_count longest _ _ = longest

-- ---- refusals

-- edits, ends, origins or timescales are left out
abbrev pub moves_limits : Without → Bool
moves_limits l = l.edits || l.ends || l.origins || l.timescales

-- Where one of these is and timing counts, some track may be too long (of timescales alone only
-- over a store that has changed); without origins it may also have an offset that doesn't fit.
abbrev pub MayBeLong : Without → Fault → Type 0
MayBeLong l f = (moves_limits l ≡ true) × (l.timing ≡ false)
    × ((f.kind ≡ TimeTooLarge) ⊎ ((l.origins ≡ true) × (f.kind ≡ OffsetTooLarge)))
    × (f.box_type ≡ codes "tkhd")

-- Why the length of what is left is not answered.
abbrev pub RefusesLength : Without → Refusal → Type 0
RefusesLength l (refusals.Fault f) = MayBeLong l f
RefusesLength l refusals.Memory = Unit {0}
RefusesLength l _ = ⊥

-- ---- over an opened file

-- what remains of a track of the file
abbrev pub track_left : Without → List ℕ → FileTree → TrackTree → Track
track_left l file tree t = remaining_track l (movie_divisor l (presentation_of file tree))
    (track_of file (file_parts tree) t)

-- the timescale of the movie that remains
abbrev pub scale_left : Without → List ℕ → FileTree → ℕ
scale_left l file tree = (remaining_movie l (movie_divisor l (presentation_of file tree))
    (presentation_of file tree).movie).timescale

-- it is not too long
abbrev pub TreeLeftInTime : Without → List ℕ → FileTree → TrackTree → Type 0
TreeLeftInTime l file tree t = IsInTime (scale_left l file tree) (track_left l file tree t)

-- its composition offsets fit
abbrev pub TreeLeftInRange : Without → List ℕ → FileTree → TrackTree → Type 0
TreeLeftInRange l file tree t = HasNearOffsets (track_left l file tree t)

abbrev pub TreeLeftInLimits : Without → List ℕ → FileTree → TrackTree → Type 0
TreeLeftInLimits l file tree t = TreeLeftInTime l file tree t × TreeLeftInRange l file tree t

-- a fault of this track: it is too long, or else an offset doesn't fit
abbrev pub IsTreeFault : Without → List ℕ → FileTree → TrackTree → Fault → Type 0
IsTreeFault l file tree t f = ((TreeLeftInTime l file tree t → ⊥)
    × (f ≡ fault_of TimeTooLarge (first_of (codes "tkhd") t.track)))
    ⊎ (TreeLeftInTime l file tree t × (TreeLeftInRange l file tree t → ⊥)
    × (f ≡ fault_of OffsetTooLarge (first_of (codes "tkhd") t.track)))

-- What remains of a track is too long, or has offsets that don't fit: the first such track of the
-- file.
pub record TreePassesLimits (l : Without) (file : List ℕ) (tree : FileTree) (f : Fault)
    : Type 0 where
  pub before : List TrackTree
  pub t : TrackTree
  pub after : List TrackTree
  pub tracks : tree.movie.tracks ≡ before ++ t ∷ after
  pub in_limits : AllByRecursion (TreeLeftInLimits l file tree) before
  pub named : IsTreeFault l file tree t f

-- a fault is that of the first track that is too long, or whose offsets don't fit
abbrev pub NamesLong : Without → List ℕ → FileTree → Refusal → Type 0
NamesLong l file tree (refusals.Fault f) = TreePassesLimits l file tree f
    × (RemainsInLimits l (presentation_of file tree) → ⊥)
NamesLong l file tree _ = Unit {0}
