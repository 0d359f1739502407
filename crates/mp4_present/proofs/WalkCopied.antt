-- The samples of a walk, of which the bytes are carried along: hand after hand, from the first sample of the track to its last.
use Rattle.std.proofs.Common.{◌≡◌, ℕ, ◌+◌, ◌≤◌, List, [], ◌++◌, length, Some, sym, ap, subst, ◌∙◌, arith, append_assoc}
use Rattle.std.proofs.lemmas.List.{append-nil}
use Rattle.std.specs.List.{AllByRecursion, slice_get}
use Rattle.std.specs.Prelude.{Bool, true, false, Result, Ok, Err, IfErr, OnOk, OnErr}
use Rattle.mp4_boxes.proofs.Each.{each_member}
use Rattle.mp4_boxes.proofs.Joined.{all_first, all_last}
use Rattle.mp4_boxes.specs.declared.refusal.Refusal.{Refusal}
use Rattle.mp4_boxes.specs.declared.refusal.Refusal.TheVariants as refusals
use Rattle.mp4_boxes.proofs.Plain.{get_every, get_zip, some_is}
use Rattle.mp4_store.specs.words.Device.{TakesPrefix}
use Rattle.mp4_store.proofs.Known.{IsJoining, TakesPrefix-longer}
use Rattle.mp4_tables.specs.declared.sample.SampleAt.{SampleAt}
use Rattle.mp4_tables.proofs.Sums.{timed_bytes}
use Rattle.mp4_tables.specs.words.TablesSeen.{CursorSeen as TableView}
use Rattle.mp4_frag.specs.words.OwnTrafs.{PlacedTraf}
use Rattle.mp4_head.specs.format.Tree.{TrackTree}
use Rattle.mp4_present.specs.words.Carried.{BytesGoOn, RefusesPut, RefusesStretch}
use Rattle.mp4_present.specs.words.SamplesComing.{StandsBefore, Comes, Loads, samples_behind, track_samples}
use Rattle.mp4_present.specs.format.Denotes.{FileTree, file_parts, placed_of}
use Rattle.mp4_present.specs.words.InHand.{left_in_hand}
use Rattle.mp4_present.specs.words.Joined.{IsBelow, sample_bytes, sizes_of}
use Rattle.mp4_present.specs.words.Movies.{MovieSeen, HandAt, InHandOf, tables_seen}
use Rattle.mp4_present.specs.words.OpenedMovie.{IsOpenedAs, IsInfoOf}
use Rattle.mp4_present.specs.declared.walking.in_hand.InHand.{InHand}
use Rattle.mp4_present.specs.declared.walking.in_hand.InHand.TheVariants as hands
use Rattle.mp4_present.specs.declared.walking.in_hand.Place.{Place}
use Rattle.mp4_present.specs.declared.walking.in_hand.Place.TheVariants.{Tables, Fragment}
use Rattle.mp4_present.specs.declared.movie.TrackTables.{TrackTables}
use Rattle.mp4_present.specs.declared.walking.stretches.Stretch.{Stretch}
use Rattle.mp4_present.specs.declared.track_info.TrackInfo.{TrackInfo}
use Rattle.mp4_present.specs.declared.walking.Walk.{Walk}
use Rattle.mp4_present.proofs.Carrying.{BytesGoOn-then, BytesGoOn-all, BytesGoOn-fails, BytesGoOn-front}
use Rattle.mp4_present.proofs.Hands.{HandGoesOn, hand_all, bytes_of_two}
use Rattle.mp4_present.proofs.HandSizes.{sizes_of_two}
use Rattle.mp4_present.proofs.HeldAgain.{stands_moved}
use Rattle.mp4_present.proofs.SamplesLie.{IsInFile, placed_lie, timed_lie}

-- ---- what is in hand

one_at : (m : MovieSeen) (w : Walk) (p : Place) (a b : InHand) → HandAt m w p a → HandAt m w p b → a ≡ b
one_at m w (Tables p) (hands.Tables x) (hands.Tables y) h k =
    let same : h.0 ≡ k.0 = some_is h.0 k.0 (sym h.1 ∙ k.1) in
    let view : TrackTables → TableView = λ t. record { tables = tables_seen m.moov t; place = p } in
    ap (λ (c : TableView). hands.Tables c) (h.2 ∙ ap view same ∙ sym k.2)
one_at m w (Fragment p) (hands.Fragment x) (hands.Fragment y) h k = let same = h ∙ sym k in λ i. hands.Fragment (same i)
one_at m w (Tables p) (hands.Tables x) (hands.Fragment y) h k = absurd k
one_at m w (Tables p) (hands.Fragment x) b h k = absurd h
one_at m w (Fragment p) (hands.Fragment x) (hands.Tables y) h k = absurd k
one_at m w (Fragment p) (hands.Tables x) b h k = absurd h

-- a walk has one thing in hand
pub hand_one : (m : MovieSeen) (w : Walk) (a b : InHand) → InHandOf m w a → InHandOf m w b → a ≡ b
hand_one m w a b h k = one_at m w w.place a b h k

-- between which `traf`s a walk stands doesn't depend on its place in what is in hand
pub kept_before : (file : List ℕ) (tree : FileTree) (t : TrackTree) (earlier later : List PlacedTraf) (w : Walk) (p : Place) → StandsBefore file tree t earlier later w → StandsBefore file tree t earlier later (record w { place = p })
kept_before file tree t earlier later w p s = stands_moved file tree t earlier later w p w.mark s

-- ---- hand after hand

-- The bytes of the first samples of a track follow, from the first on; those behind these `traf`s are to come, with as many bytes as are left.
pub record TrackGoesOn (file : List ℕ) (tree : FileTree) (t : TrackTree) (Took : List ℕ → Type 0) (held_after : List ℕ) (w : Walk) (all : List SampleAt) (left : ℕ) : Type 0 where
  pub earlier : List PlacedTraf
  pub later : List PlacedTraf
  pub stands : StandsBefore file tree t earlier later w
  pub goes : HandGoesOn file Took [] held_after all (samples_behind tree t earlier later)
  pub sizes : left ≡ sizes_of (samples_behind tree t earlier later)

-- where a walk keeps its place, it stands before the same `traf`s
abbrev pub StandsOn : Walk → Walk → Type 0
StandsOn w later_w = (file : List ℕ) (tree : FileTree) (t : TrackTree) (earlier later : List PlacedTraf) → StandsBefore file tree t earlier later w → StandsBefore file tree t earlier later later_w

-- what is in hand is carried along
pub track_next : (file : List ℕ) (tree : FileTree) (t : TrackTree) (m : MovieSeen) {Y : Type 0} {takes : Y → Y → List ℕ → Type 0} (joins : IsJoining takes) (a b c : Y) (held_b held_c : List ℕ) (w later_w : Walk) (all to_come : List SampleAt) (bytes left : ℕ)
    → HandGoesOn file (takes a b) [] held_b all to_come → Comes file tree t m w to_come
    → bytes ≡ sizes_of to_come → (y : InHand) → InHandOf m w y → sizes_of (left_in_hand y) + left ≡ bytes
    → (x : InHand) → InHandOf m w x → BytesGoOn (takes b c) held_b held_c (sample_bytes file (left_in_hand x)) → StandsOn w later_w → TrackGoesOn file tree t (takes a c) held_c later_w all left
track_next file tree t m {takes = takes} joins a b c held_b held_c w later_w all to_come bytes left h k have y j sizes x i put on =
    let own_list = left_in_hand k.2 in
    let own : BytesGoOn (takes b c) held_b held_c (sample_bytes file own_list) = subst (λ (z : InHand). BytesGoOn (takes b c) held_b held_c (sample_bytes file (left_in_hand z))) (hand_one m w x k.2 i k.3.1) put in
    let own_sizes : sizes_of own_list + left ≡ bytes = subst (λ (z : InHand). sizes_of (left_in_hand z) + left ≡ bytes) (hand_one m w y k.2 j k.3.1) sizes in
    let both = ap sizes_of k.3.2 ∙ sizes_of_two own_list (samples_behind tree t k.0 k.1) in
    record {
      earlier = k.0;
      later = k.1;
      stands = on file tree t k.0 k.1 k.3.0;
      goes = record {
        done = h.done ++ own_list;
        whole = append_assoc h.done own_list (samples_behind tree t k.0 k.1) ∙ ap (λ (ss : List SampleAt). h.done ++ ss) (sym k.3.2) ∙ h.whole;
        bytes = BytesGoOn-then joins a b c [] held_b held_c (sample_bytes file h.done) (sample_bytes file own_list) (sample_bytes file (h.done ++ own_list)) h.bytes own (bytes_of_two file h.done own_list);
      };
      sizes = omega (arith, have, own_sizes, both);
    }

-- the samples of a track have as many bytes as opening counted
pub track_sizes : (file : List ℕ) (m : MovieSeen) (tree : FileTree) (t : TrackTree) (k : ℕ) (info : TrackInfo) → IsOpenedAs file m tree → slice_get tree.movie.tracks k ≡ Some t → slice_get m.tracks k ≡ Some info → info.bytes ≡ sizes_of (track_samples tree t)
track_sizes file m tree t k info o at there = (get_zip (IsInfoOf file tree) tree.movie.tracks m.tracks k t info o.tracks at there).bytes ∙ sym (timed_bytes _ _ _ (placed_of (file_parts tree) t))

-- none is left where no sample is to come
pub none_left : (left : ℕ) (to_come : List SampleAt) → left ≡ sizes_of to_come → to_come ≡ [] → left ≡ 0
none_left left to_come e none = e ∙ ap sizes_of none

-- the bytes of all samples are those of the first and of those to come
whole_bytes : (file : List ℕ) (Took : List ℕ → Type 0) (held_b : List ℕ) (all to_come : List SampleAt) → (h : HandGoesOn file Took [] held_b all to_come) → sample_bytes file all ≡ sample_bytes file h.done ++ sample_bytes file to_come
whole_bytes file Took held_b all to_come h = ap (sample_bytes file) (sym h.whole) ∙ bytes_of_two file h.done to_come

-- it isn't carried along whole
pub track_fails : (file : List ℕ) (tree : FileTree) (t : TrackTree) (m : MovieSeen) {Y : Type 0} {takes : Y → Y → List ℕ → Type 0} (joins : IsJoining takes) (a b c : Y) (held_b : List ℕ) (w : Walk) (all to_come : List SampleAt) → HandGoesOn file (takes a b) [] held_b all to_come
    → Comes file tree t m w to_come
    → (x : InHand) → InHandOf m w x → TakesPrefix (takes b c) (held_b ++ sample_bytes file (left_in_hand x)) → TakesPrefix (takes a c) (sample_bytes file all)
track_fails file tree t m {takes = takes} joins a b c held_b w all to_come h k x i p =
    let own = sample_bytes file (left_in_hand x) in
    let rest = sample_bytes file (samples_behind tree t k.0 k.1) in
    let two : sample_bytes file to_come ≡ own ++ rest =
    ap (sample_bytes file) (k.3.2 ∙ ap (λ (y : InHand). left_in_hand y ++ samples_behind tree t k.0 k.1) (hand_one m w k.2 x k.3.1 i)) ∙ bytes_of_two file (left_in_hand x) (samples_behind tree t k.0 k.1) in
    let all_is : sample_bytes file all ≡ sample_bytes file h.done ++ (own ++ rest) = whole_bytes file (takes a b) held_b all to_come h ∙ ap (λ (bs : List ℕ). sample_bytes file h.done ++ bs) two in
    rw all_is (BytesGoOn-fails joins a b c [] held_b (sample_bytes file h.done) (own ++ rest) h.bytes (rw (← append_assoc held_b own rest) (TakesPrefix-longer (takes b c) (held_b ++ own) rest p)))

-- what was put so far is a front of all
pub track_stops : (file : List ℕ) (Took : List ℕ → Type 0) (held_b : List ℕ) (all to_come : List SampleAt) → HandGoesOn file Took [] held_b all to_come → TakesPrefix Took (sample_bytes file all)
track_stops file Took held_b all to_come h = rw (whole_bytes file Took held_b all to_come h) (BytesGoOn-front Took [] held_b (sample_bytes file h.done) (sample_bytes file to_come) h.bytes)

-- nothing is to come, and what waits is put
pub track_whole : (file : List ℕ) {Y : Type 0} {takes : Y → Y → List ℕ → Type 0} (joins : IsJoining takes) (a b c : Y) (held_b : List ℕ) (all to_come : List SampleAt) → HandGoesOn file (takes a b) [] held_b all to_come → to_come ≡ [] → takes b c held_b → takes a c (sample_bytes file all)
track_whole file {takes = takes} joins a b c held_b all to_come h none p = BytesGoOn-all joins a b c [] held_b (sample_bytes file all) (hand_all file (takes a b) [] held_b all to_come h none) p

-- or is not put whole
pub track_not_put : (file : List ℕ) {Y : Type 0} {takes : Y → Y → List ℕ → Type 0} (joins : IsJoining takes) (a b c : Y) (held_b : List ℕ) (all to_come : List SampleAt) → HandGoesOn file (takes a b) [] held_b all to_come → to_come ≡ [] → TakesPrefix (takes b c) held_b
    → TakesPrefix (takes a c) (sample_bytes file all)
track_not_put file {takes = takes} joins a b c held_b all to_come h none p =
    let bytes = sample_bytes file all in
    let q : TakesPrefix (takes a c) (bytes ++ []) = BytesGoOn-fails joins a b c [] held_b bytes [] (hand_all file (takes a b) [] held_b all to_come h none) (TakesPrefix-longer (takes b c) held_b [] p) in
    rw (append-nil bytes) at q

-- ---- an honest store has not changed

-- the samples of a track end within the file
pub track_lies : (file : List ℕ) (m : MovieSeen) (tree : FileTree) (t : TrackTree) (k : ℕ) → IsOpenedAs file m tree → slice_get tree.movie.tracks k ≡ Some t → AllByRecursion (IsBelow (length file)) (track_samples tree t)
track_lies file m tree t k o is =
    let Lie : TrackTree → Type 0 = λ u. AllByRecursion (IsInFile (length file)) (placed_of (file_parts tree) u) in
    timed_lie (length file) _ _ _ (placed_of (file_parts tree) t) (get_every Lie tree.movie.tracks k t is (each_member Lie tree.movie.tracks (λ u i. placed_lie file tree u o.hands_out i)))

-- what follows where those in hand do, and have no more bytes than are left
pub in_hand_lies : (file : List ℕ) (tree : FileTree) (t : TrackTree) (m : MovieSeen) (Took : List ℕ → Type 0) (held_b : List ℕ) (w : Walk) (all to_come : List SampleAt) (n left : ℕ) (X : Type 0) → HandGoesOn file Took [] held_b all to_come → Comes file tree t m w to_come
    → left ≡ sizes_of to_come → AllByRecursion (IsBelow n) all → (x : InHand) → InHandOf m w x → (AllByRecursion (IsBelow n) (left_in_hand x) → sizes_of (left_in_hand x) ≤ left → X) → X
in_hand_lies file tree t m Took held_b w all to_come n left X h k have lie x i then =
    let coming : AllByRecursion (IsBelow n) to_come = all_last (IsBelow n) h.done to_come (subst (λ (ss : List SampleAt). AllByRecursion (IsBelow n) ss) (sym h.whole) lie) in
    let own = all_first (IsBelow n) (left_in_hand k.2) (samples_behind tree t k.0 k.1) (subst (λ (ss : List SampleAt). AllByRecursion (IsBelow n) ss) k.3.2 coming) in
    let both = ap sizes_of k.3.2 ∙ sizes_of_two (left_in_hand k.2) (samples_behind tree t k.0 k.1) in
    let fits : sizes_of (left_in_hand k.2) ≤ left = omega (arith, have, both) in
    let same = hand_one m w k.2 x k.3.1 i in
    then (subst (λ (y : InHand). AllByRecursion (IsBelow n) (left_in_hand y)) same own) (subst (λ (y : InHand). sizes_of (left_in_hand y) ≤ left) same fits)

-- a stretch that lies in the file shows no change
pub stretch_there : (file : List ℕ) (s : Stretch) (reads reads_after puts puts_after : ℕ) (r : Refusal) → s.at + s.len ≤ length file → RefusesStretch file s reads reads_after puts puts_after r → r ≡ refusals.StoreChanged → ⊥
stretch_there file s reads reads_after puts puts_after (refusals.Fault f) le w e = w
stretch_there file s reads reads_after puts puts_after refusals.Memory le w e = w
stretch_there file s reads reads_after puts puts_after refusals.StoreFailed le w e = absurd cc
stretch_there file s reads reads_after puts puts_after refusals.StoreChanged le w e = absurd (omega (arith, le, w))
stretch_there file s reads reads_after puts puts_after refusals.WriteFailed le w e = absurd cc
stretch_there file s reads reads_after puts puts_after refusals.NoSuchTrack le w e = w

-- ---- answers

pub on_ok : {T E : Type 0} (A B : Type 0) (r : Result T E) → (A → B) → OnOk r A → OnOk r B
on_ok A B (Ok x) f a = f a
on_ok A B (Err x) f a = tt

pub on_err : {T E : Type 0} (A B : Type 0) (r : Result T E) → (A → B) → OnErr r A → OnErr r B
on_err A B (Ok x) f a = tt
on_err A B (Err x) f a = f a

pub if_err : {T E : Type 0} (P Q : E → Type 0) (r : Result T E) → ((e : E) → P e → Q e) → IfErr r P → IfErr r Q
if_err P Q (Ok x) f a = tt
if_err P Q (Err e) f a = f e a

-- a put shows no change
pub put_unchanged : (puts puts_after : ℕ) (r : Refusal) → RefusesPut puts puts_after r → r ≡ refusals.StoreChanged → ⊥
put_unchanged puts puts_after (refusals.Fault f) w e = w
put_unchanged puts puts_after refusals.Memory w e = w
put_unchanged puts puts_after refusals.StoreFailed w e = w
put_unchanged puts puts_after refusals.StoreChanged w e = w
put_unchanged puts puts_after refusals.WriteFailed w e = absurd cc
put_unchanged puts puts_after refusals.NoSuchTrack w e = w

-- what was loaded, by whether there was something
pub loads_more : (file : List ℕ) (tree : FileTree) (t : TrackTree) (m : MovieSeen) (samples : List SampleAt) (w : Walk) (more : Bool) → more ≡ true → Loads file tree t m samples w more → Comes file tree t m w samples
loads_more file tree t m samples w true e l = l
loads_more file tree t m samples w false e l = absurd cc

pub loads_none : (file : List ℕ) (tree : FileTree) (t : TrackTree) (m : MovieSeen) (samples : List SampleAt) (w : Walk) (more : Bool) → more ≡ false → Loads file tree t m samples w more → samples ≡ []
loads_none file tree t m samples w true e l = absurd cc
loads_none file tree t m samples w false e l = l
