-- Differences between presentations, worked out by hand.
use Rattle.std.specs.Prelude.{◌≡◌, pos, negsuc, ℕ, List, [], ◌∷◌, Option, None, Some, ◌*◌, ◌^◌, codes, refl}
use Rattle.mp4_tables.specs.format.Groups.{GroupKey, Groups}
use Rattle.mp4_head.specs.format.Head.{Kept}
use Rattle.mp4_present.specs.format.Presentation.{Sample}
use Rattle.mp4_content.specs.format.Differences.{differ, kept_differences}
use Rattle.mp4_content.specs.format.Comparison.{sample_differences, differences}
use Rattle.mp4_content.specs.format.ComparisonLaws.{value_at}
use Rattle.mp4_content.specs.declared.comparing.differences.Subject.{Subject}
use Rattle.mp4_content.specs.declared.comparing.differences.Subject.TheVariants as subjects
use Rattle.mp4_content.specs.declared.comparing.differences.Entries.TheVariants as entries
use Rattle.mp4_content.specs.declared.comparing.differences.Part.TheVariants as parts
use Rattle.mp4_content.specs.declared.comparing.differences.Field.{Field}
use Rattle.mp4_content.specs.declared.comparing.differences.Field.TheVariants as fields
use Rattle.mp4_content.specs.declared.comparing.differences.Value.{Value}
use Rattle.mp4_content.specs.declared.comparing.differences.Value.TheVariants.{Number, Signed, Kind, Byte}
use Rattle.mp4_content.specs.declared.comparing.differences.Difference.{Difference}
use Rattle.mp4_present.proofs.Vectors.{p_presentation, grouped_presentation, two_grouped_presentation}

abbrev entry : Subject → Field → Value → Value → Difference
entry subject field left right = record { subject = subject; field = field; left = left; right = right }

-- the field of a sample's index at a key
abbrev group_field : List ℕ → Option ℕ → Field
group_field kind parameter = fields.Group (record { kind = record { 0 = kind }; parameter = parameter })

-- ---- presentations

same-none : differences two_grouped_presentation two_grouped_presentation ≡ []
unfolding differ
same-none = refl

-- the third sample is in the group in one of the two
grouped-one : differences grouped_presentation two_grouped_presentation ≡ entry (subjects.Sample 1 3) (group_field (codes "roll") None) (Number 1) (Number 0) ∷ []
unfolding differ
grouped-one = refl

-- one of the two has a description of groups, and its first two samples are in the group
ungrouped-three : differences p_presentation two_grouped_presentation ≡
    entry (subjects.Track 1) (fields.Count entries.GroupDescriptions) (Number 0) (Number 1)
    ∷ entry (subjects.Sample 1 1) (group_field (codes "roll") None) (Number 0) (Number 1)
    ∷ entry (subjects.Sample 1 2) (group_field (codes "roll") None) (Number 0) (Number 1) ∷ []
unfolding differ
ungrouped-three = refl

-- without its track a movie has one fewer, and no more is said of that one
trackless-one : differences p_presentation (record p_presentation { tracks = [] }) ≡ entry subjects.Movie fields.Tracks (Number 1) (Number 0) ∷ []
unfolding differ
trackless-one = refl

-- ---- samples

abbrev sample : List ℕ → Groups → Sample
sample bytes groups = record { duration = 512; offset = pos 0; flags = 0; description = 1; bytes = bytes; groups = groups }

abbrev key : List ℕ → Option ℕ → GroupKey
key kind parameter = record { kind = kind; parameter = parameter }

abbrev rolled : Sample
rolled = sample (codes "aaaaa") ((key (codes "roll") None, 1) ∷ (key (codes "tele") None, 3) ∷ [])

abbrev paired : Sample
paired = sample (codes "aaaaa") ((key (codes "rap ") (Some 0), 2) ∷ (key (codes "tele") None, 3) ∷ [])

-- keys are named in their order, whichever sample has them
keys-in-order : sample_differences 1 2 rolled paired ≡
    entry (subjects.Sample 1 2) (group_field (codes "rap ") (Some 0)) (Number 0) (Number 2) ∷ entry (subjects.Sample 1 2) (group_field (codes "roll") None) (Number 1) (Number 0) ∷ []
unfolding differ
keys-in-order = refl

keys-turned : sample_differences 1 2 paired rolled ≡
    entry (subjects.Sample 1 2) (group_field (codes "rap ") (Some 0)) (Number 2) (Number 0) ∷ entry (subjects.Sample 1 2) (group_field (codes "roll") None) (Number 0) (Number 1) ∷ []
unfolding differ
keys-turned = refl

-- each number, in order
numbers-in-order : sample_differences 2 1 (sample (codes "a") []) (record { duration = 256; offset = negsuc 0; flags = 65536; description = 2; bytes = codes "a"; groups = [] }) ≡
    entry (subjects.Sample 2 1) fields.Duration (Number 512) (Number 256)
    ∷ entry (subjects.Sample 2 1) fields.Offset (Signed (pos 0)) (Signed (negsuc 0))
    ∷ entry (subjects.Sample 2 1) fields.Flags (Number 0) (Number 65536)
    ∷ entry (subjects.Sample 2 1) fields.Description (Number 1) (Number 2) ∷ []
unfolding differ
numbers-in-order = refl

-- of bytes of one length the first that differs, counted from 1
first-byte : sample_differences 1 1 (sample (codes "abcd") []) (sample (codes "abxy") []) ≡ entry (subjects.Sample 1 1) (fields.Byte 3 4) (Byte 99) (Byte 120) ∷ []
unfolding differ
first-byte = refl

-- of bytes of two lengths these alone
other-size : sample_differences 1 1 (sample (codes "abcd") []) (sample (codes "xyz") []) ≡ entry (subjects.Sample 1 1) fields.Size (Number 4) (Number 3) ∷ []
unfolding differ
other-size = refl

-- ---- boxes

abbrev box : List ℕ → List ℕ → Kept
box kind payload = record { kind = kind; payload = payload }

-- the number of boxes, and then box by box those that both have: a payload of another length, a box of another type with another byte
boxes-both : kept_differences subjects.Movie (box (codes "udta") (codes "ab") ∷ box (codes "meta") (codes "cd") ∷ box (codes "iods") [] ∷ []) (box (codes "udta") (codes "abc") ∷ box (codes "tref") (codes "ce") ∷ []) ≡
    entry subjects.Movie (fields.Count entries.Kept) (Number 3) (Number 2)
    ∷ entry subjects.Movie (fields.Entry entries.Kept 1 parts.Length) (Number 2) (Number 3)
    ∷ entry subjects.Movie (fields.Entry entries.Kept 2 parts.Kind) (Kind (record { 0 = codes "meta" })) (Kind (record { 0 = codes "tref" }))
    ∷ entry subjects.Movie (fields.Entry entries.Kept 2 (parts.Byte 2 2)) (Byte 100) (Byte 101) ∷ []
unfolding differ
boxes-both = refl

-- ---- what is said at a place

-- the second byte of the first sample, of the first track; there is no such byte where the length is another, nor a third sample of a second track
byte-there : value_at p_presentation (subjects.Sample 1 1) (fields.Byte 2 5) ≡ Some (Byte 97)
byte-there = refl

byte-not-there : value_at p_presentation (subjects.Sample 1 1) (fields.Byte 2 7) ≡ None
byte-not-there = refl

sample-not-there : value_at p_presentation (subjects.Sample 2 3) fields.Duration ≡ None
sample-not-there = refl

-- the third sample is in no group of that kind
index-there : value_at two_grouped_presentation (subjects.Sample 1 3) (group_field (codes "roll") None) ≡ Some (Number 0)
index-there = refl

height-there : value_at p_presentation (subjects.Track 1) fields.Height ≡ Some (Number (48 * 2 ^ 16))
height-there = refl
