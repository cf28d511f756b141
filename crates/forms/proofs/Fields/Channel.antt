-- The channel.
use Rattle.std.specs.Prelude.{Option, None, Some, ℕ}
use Rattle.cond.proofs.Kit.{◌<◌, ◌≡◌, arith, Bool, false, false≢true, leb-true, refl, true}
use Rattle.record.specs.Record.{channel_in_range}
use Rattle.forms.specs.Fields.Channel.{decode_channel, encode_channel, has_channel, carried_channel}
use Rattle.forms.specs.Slots.{Values, channel}

-- decoded and encoded again
pub channel_encoded : (k : Bool) (v : Values) → k ≡ true → encode_channel (decode_channel k v) ≡ v channel
unfolding decode_channel
channel_encoded false v h = absurd (false≢true h)
channel_encoded true v h = refl

-- encoded and decoded again
pub channel_decoded : (k : Bool) (x : Option ℕ) (v : Values) → has_channel k x ≡ true → (k ≡ true → v channel ≡ encode_channel x) → decode_channel k v ≡ carried_channel k x
unfolding decode_channel carried_channel
channel_decoded false x v h p = refl
channel_decoded true None v h p = absurd (false≢true h)
channel_decoded true (Some n) v h p = simp (p refl)

-- what is decoded is there and is carried
pub channel_carried : (k : Bool) (v : Values) → (has_channel k (decode_channel k v) ≡ true) × (carried_channel k (decode_channel k v) ≡ decode_channel k v)
unfolding decode_channel carried_channel
channel_carried false v = (refl, refl)
channel_carried true v = (refl, refl)

-- ranges

pub channel_lt : (x : Option ℕ) → channel_in_range x ≡ true → encode_channel x < 2
unfolding channel_in_range
channel_lt None e = omega arith
channel_lt (Some n) e = omega (arith, leb-true n 1 e)

pub channel_stays : (k : Bool) (x : Option ℕ) → channel_in_range x ≡ true → channel_in_range (carried_channel k x) ≡ true
unfolding channel_in_range carried_channel
channel_stays false x h = refl
channel_stays true x h = h
