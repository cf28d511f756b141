-- Each number has its own line, and each line its own reader.
use Rattle.cond.proofs.Kit.{arith, refl}
use Rattle.forms.specs.Carries.{carries_of}
use Rattle.forms.specs.Fields.Flag.{decode_flag}
use Rattle.forms.specs.Places.{has, values}
use Rattle.forms.specs.Slots.{change, dsp, fix, leap, lsp, summer, sync, utc}
use Rattle.block_lines.specs.Flags.{with_flag}
use Rattle.block_lines.specs.Reading.{decoded, has_any, onto}
use Rattle.block.proofs.Flags.{flag_read_lem}
use Rattle.block.proofs.line.read_line.Goals as goal

pub returns-in-4 : goal.returns-in-4
returns-in-4 c = unfold onto decoded has_any carries_of has values decode_flag with_flag in flag_read_lem "sync=" sync _ _ (refl, (λ e. rw e), (λ e. rw e)) _ 4
    c.in-4.is refl _ c.read_flag.ensures

pub returns-in-5 : goal.returns-in-5
returns-in-5 c = unfold onto decoded has_any carries_of has values decode_flag with_flag in flag_read_lem "fix=" fix _ _ (refl, (λ e. rw e), (λ e. rw e)) _ 5
    c.in-5.is refl _ c.read_flag-in-5.ensures

pub returns-in-6 : goal.returns-in-6
returns-in-6 c = unfold onto decoded has_any carries_of has values decode_flag with_flag in flag_read_lem "utc=" utc _ _ (refl, (λ e. rw e), (λ e. rw e)) _ 6
    c.in-6.is refl _ c.read_flag-in-6.ensures

pub returns-in-7 : goal.returns-in-7
returns-in-7 c = unfold onto decoded has_any carries_of has values decode_flag with_flag in flag_read_lem "summer=" summer _ _ (refl, (λ e. rw e), (λ e. rw e)) _ 7
    c.in-7.is refl _ c.read_flag-in-7.ensures

pub returns-in-8 : goal.returns-in-8
returns-in-8 c = unfold onto decoded has_any carries_of has values decode_flag with_flag in flag_read_lem "change=" change _ _ (refl, (λ e. rw e), (λ e. rw e)) _ 8
    c.in-8.is refl _ c.read_flag-in-8.ensures

pub returns-in-9 : goal.returns-in-9
returns-in-9 c = unfold onto decoded has_any carries_of has values decode_flag with_flag in flag_read_lem "leap=" leap _ _ (refl, (λ e. rw e), (λ e. rw e)) _ 9
    c.in-9.is refl _ c.read_flag-in-9.ensures

pub returns-in-12 : goal.returns-in-12
returns-in-12 c = unfold onto decoded has_any carries_of has values decode_flag with_flag in flag_read_lem "dsp=" dsp _ _ (refl, (λ e. rw e), (λ e. rw e)) _ 12
    c.in-12.is refl _ c.read_flag-in-12.ensures

pub returns-in_default : goal.returns-in_default
returns-in_default c = unfold onto decoded has_any carries_of has values decode_flag with_flag in flag_read_lem "lsp=" lsp _ _ (refl, (λ e. rw e), (λ e. rw e)) _ 13
    (omega arith) refl _ c.read_flag-in_default.ensures
