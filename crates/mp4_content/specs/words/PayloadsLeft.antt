-- What a clause sees of payloads that are left, in memory of their own.
use Rattle.std.specs.Prelude.{◌≡◌, ℕ, ◌&&◌, ◌||◌, Bool, false, List, if◌then◌else◌, map}
use Rattle.std.specs.List.{AllZip}
use Rattle.mp4_head.specs.format.Head as heads
use Rattle.mp4_head.specs.words.Seen.{media_seen}
use Rattle.mp4_head.specs.declared.heads.TrackHead.{TrackHead}
use Rattle.mp4_content.specs.format.BitRates.{entry_left}
use Rattle.mp4_content.specs.format.Reduced.{is_picture, plain_handler, plain_picture, reduce_descriptions}
use Rattle.mp4_content.specs.declared.own_payloads.BoxLeft.{BoxLeft}
use Rattle.mp4_content.specs.declared.own_payloads.MediaLeft.{MediaLeft}
use Rattle.mp4_content.specs.declared.without.Without.{Without}

abbrev pub box_left_seen : BoxLeft → heads.Kept
box_left_seen b = record { kind = b.kind.0; payload = b.payload.items }

-- payloads of media are left out, or of parts of them
abbrev pub leaves_payloads : Without → Bool
leaves_payloads l = l.labels || l.bitrates || l.ids

-- media with what is left of their payloads, and with all else
abbrev pub media_payloads_left : Without → heads.Media → heads.Media
media_payloads_left l m = record m {
  handler = if l.labels then plain_handler m.handler else m.handler;
  descriptions = reduce_descriptions l m.handler m.descriptions;
}

abbrev pub track_payloads_left : Without → heads.TrackHead → heads.TrackHead
track_payloads_left l t = record t { media = media_payloads_left l t.media }

-- what is left of a sample description of a track with this handler without bit rates, and without
-- the ID in it
abbrev pub rates_and_id_left : Without → List ℕ → heads.Kept → heads.Kept
rates_and_id_left l handler k =
    if l.bitrates || l.ids then entry_left l.bitrates l.ids handler k else k

-- all that is left of it
abbrev pub description_left : Without → List ℕ → heads.Kept → heads.Kept
description_left l handler k = if l.labels && is_picture handler
    then plain_picture (rates_and_id_left l handler k) else rates_and_id_left l handler k

-- The same is left out, but payloads of media stay. IDs in them do too; those of heads go by other
-- words (`number_heads`).
abbrev pub keeping_payloads : Without → Without
keeping_payloads l = record l { bitrates = false; labels = false; ids = false }

-- this is left of the payloads of media
pub record IsMediaLeft (l : Without) (m : heads.Media) (left : MediaLeft) : Type 0 where
  pub handler : left.handler.items ≡ (media_payloads_left l m).handler
  pub descriptions : map box_left_seen left.descriptions.items
      ≡ (media_payloads_left l m).descriptions

-- of each track's
abbrev pub AreMediaLeft : Without → List TrackHead → List MediaLeft → Type 0
AreMediaLeft l tracks lefts =
    AllZip (λ (t : TrackHead). IsMediaLeft l (media_seen t.media)) tracks lefts
