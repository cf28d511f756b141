-- Each field is a call.
use Rattle.flat_record.specs.Decode.{record_at}
use Rattle.flat_record.proofs.decode.record_at.Goals as goal

pub returns : goal.returns
unfolding record_at
returns c = simp (c.flag_from-8.ensures, c.flag_from-7.ensures, c.position_at.ensures, c.offset_at.ensures, c.flag_from-6.ensures)
    (simp (c.flag_from-5.ensures, c.flag_from-4.ensures, c.flag_from-3.ensures, c.flag_from-2.ensures, c.flag_from.ensures)
    (simp (c.channel_from.ensures, c.fraction_from.ensures, c.date_at.ensures)))
