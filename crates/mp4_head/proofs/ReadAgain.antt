-- What is said of a `moov` is its head, and a head that was written is read again.
use Rattle.std.proofs.Common.{◌≡◌, ℕ, ◌+◌, List, ◌++◌, length, drop, refl, sym, ap, subst, ◌∙◌, arith, length-append}
use Rattle.std.specs.Prelude.{codes, [], Result, Ok, Err, IfOk}
use Rattle.std.specs.List.{AllZip}
use Rattle.std.proofs.lemmas.List.{drop_at}
use Rattle.byteorder.specs.Endian.{big_bytes}
use Rattle.byteorder.specs.Numbers.{length-bytes_high_first}
use Rattle.mp4_boxes.specs.format.Box.{Box}
use Rattle.mp4_boxes.specs.format.Written.{box_bytes}
use Rattle.mp4_boxes.specs.format.Places.{ruled}
use Rattle.mp4_boxes.specs.declared.rule.Rule.TheVariants as rules
use Rattle.mp4_boxes.specs.declared.refusal.Refusal.{Refusal}
use Rattle.mp4_boxes.specs.declared.refusal.Refusal.TheVariants as refusals
use Rattle.mp4_boxes.proofs.WrittenBoxes.{placed_box}
use Rattle.mp4_head.specs.format.Head.{MovieHead, TrackHead}
use Rattle.mp4_head.specs.format.Tree.{HasHead, MovieTree, IsMovieTree, head_of}
use Rattle.mp4_head.specs.words.Seen.{head_seen}
use Rattle.mp4_head.specs.words.Found.{SaysHead, IsFoundIn}
use Rattle.mp4_head.specs.words.Normal.{IsWritable, IsWrittenMoov, ReadsAgain, normal_trexes}
use Rattle.mp4_head.specs.words.Refuses.{place_of}
use Rattle.mp4_head.specs.words.FaultNamed.{NamesRefused, RefusesFirst}
use Rattle.mp4_head.specs.format.FirstFault.{depth, fault_within, head_or_fault}
use Rattle.mp4_head.proofs.JudgedStands.{judged_stands}
use Rattle.mp4_head.specs.format.Writing.{moov_bytes}
use Rattle.mp4_head.specs.declared.heads.MovieHead as declared
use Rattle.mp4_head.proofs.HeadExcludes.{refused_rightly}
use Rattle.mp4_head.proofs.Trees.{movie_tree_one}
use Rattle.mp4_head.proofs.WrittenHead.{head_again}
use Rattle.mp4_head.proofs.WrittenMovie.{moov_content, moov_payload}

-- what is said is what any tree of the `moov` says
pub said_of : (b : Box) (head : declared.MovieHead) (m : MovieTree) → SaysHead b head → m.moov ≡ b → IsMovieTree m → (head_seen head ≡ head_of m) × AllZip IsFoundIn m.tracks head.tracks.items
said_of b head m s e h =
    let same = movie_tree_one s.has.tree m (s.has.is_moov ∙ sym e) s.has.is_tree h in
    (s.has.says ∙ ap head_of same, subst (λ (t : MovieTree). AllZip IsFoundIn t.tracks head.tracks.items) same s.tracks)

-- what stands behind the header of a box that was written
behind_kind : (kind payload : List ℕ) → length kind ≡ 4 → drop 8 (box_bytes kind payload) ≡ payload
behind_kind kind payload four =
    drop_at (big_bytes 4 (8 + length payload) ++ kind) payload 8 (omega (arith, four, length-append (big_bytes 4 (8 + length payload)) kind, length-bytes_high_first 4 (8 + length payload)))

behind_header : (movie : MovieHead) (tracks : List TrackHead) (duration : ℕ) → drop 8 (moov_bytes movie tracks duration) ≡ moov_payload movie tracks duration
behind_header movie tracks duration = behind_kind (codes "moov") (moov_payload movie tracks duration) refl

-- a `moov` that was written is the one whose head is known
pub has_head : (b : Box) (movie : MovieHead) (tracks : List TrackHead) (duration : ℕ) → IsWritable movie tracks duration → IsWrittenMoov b movie tracks duration → HasHead b (record { movie = movie; tracks = tracks; trexes = normal_trexes tracks })
has_head b movie tracks duration w i =
    let kind = i.kind in
    let header = i.header in
    let payload = i.payload ∙ behind_header movie tracks duration in
    let same : b ≡ placed_box b.offset (moov_content movie tracks duration) = λ j. record { kind = kind j; offset = b.offset; header = header j; payload = payload j } in
    subst (λ (x : Box). HasHead x (record { movie = movie; tracks = tracks; trexes = normal_trexes tracks })) (sym same) (head_again movie tracks duration w b.offset)

-- it is read
pub again_ok : (b : Box) (head : declared.MovieHead) → SaysHead b head → ReadsAgain b (Ok head)
again_ok b head s movie tracks duration w i =
    let h = has_head b movie tracks duration w i in
    (said_of b head h.tree s h.is_moov h.is_tree).0 ∙ sym h.says

-- or refused for want of memory
again_first : (b : Box) (r : Refusal) → RefusesFirst (fault_within depth [] (place_of (ruled rules.Movie) b)) r → ReadsAgain b (Err r)
again_first b (refusals.Fault f) e movie tracks duration w i =
    let h = has_head b movie tracks duration w i in
    let named : head_or_fault b ≡ Err f = rw e refl in
    refused_rightly {A = declared.MovieHead} b (Err (refusals.Fault f)) h.tree h.is_moov h.is_tree h.is_sound (judged_stands b f named)
again_first b refusals.Memory e movie tracks duration w i = refl
again_first b refusals.StoreFailed e movie tracks duration w i = absurd e
again_first b refusals.StoreChanged e movie tracks duration w i = absurd e
again_first b refusals.WriteFailed e movie tracks duration w i = absurd e
again_first b refusals.NoSuchTrack e movie tracks duration w i = absurd e

-- whatever is answered of it
pub reads_again : (b : Box) (result : Result declared.MovieHead Refusal) → IfOk result (SaysHead b) → NamesRefused (fault_within depth [] (place_of (ruled rules.Movie) b)) result → ReadsAgain b result
reads_again b (Ok head) says exact = again_ok b head says
reads_again b (Err r) says exact = again_first b r exact.names
