-- What a layout chosen for the block carries, by its choices.
use Rattle.cond.proofs.Kit.{[], ◌<◌, ◌∙◌, ◌≡◌, ap, Bool, false, get_or, length, List, lit<, refl, String, subst, true, ℕ}
use Rattle.cond.specs.Pick.{pick}
use Rattle.forms.specs.Block.{Line, block_lines, chosen_layout, flag_line}
use Rattle.forms.specs.Carries.{carries_of}
use Rattle.forms.specs.Fields.Flag.{is_carried, no_flag, own_letter}
use Rattle.forms.specs.Fields.Offset.{in_minutes, is_offset, no_offset}
use Rattle.forms.specs.Places.{has}
use Rattle.forms.specs.Slots.{Slot, altitude, half_hour, hundredth, latitude_minute, month, notice, offset_hours, ordinal, quality, ten_millionth, thousandth, year, zone}
use Rattle.forms.proofs.BlockLayout.{absent, found}
use Rattle.forms.proofs.Choices.{date_in, fraction_in, is_present, position_in, second_has}
use Rattle.forms.proofs.FlagChoices.{flag_has}
use Rattle.forms.proofs.Lines.{choice_lt, every_variant, every_line, is_choice, only_in}

own_carried : (b : Bool) → is_carried (pick b own_letter no_flag) ≡ b
own_carried true = refl
own_carried false = refl

offset_carried : (b : Bool) → is_offset (pick b in_minutes no_offset) ≡ b
offset_carried true = refl
offset_carried false = refl

module _ (cs : List ℕ) (o : is_choice block_lines cs ≡ true) where
  -- what a chosen layout carries, by its choices
  pub record Laid : Type 0 where
    pub date : (carries_of (chosen_layout block_lines cs)).date ≡ date_in (get_or cs 0 0)
    pub fraction : (carries_of (chosen_layout block_lines cs)).fraction ≡ fraction_in (get_or cs 2 0)
    pub channel : (carries_of (chosen_layout block_lines cs)).channel ≡ is_present (get_or cs 3 0)
    pub sync : is_carried (carries_of (chosen_layout block_lines cs)).sync ≡ is_present (get_or cs 4 0)
    pub fix : is_carried (carries_of (chosen_layout block_lines cs)).fix ≡ is_present (get_or cs 5 0)
    pub utc : is_carried (carries_of (chosen_layout block_lines cs)).utc ≡ is_present (get_or cs 6 0)
    pub summer : is_carried (carries_of (chosen_layout block_lines cs)).summer ≡ is_present (get_or cs 7 0)
    pub change : is_carried (carries_of (chosen_layout block_lines cs)).change ≡ is_present (get_or cs 8 0)
    pub leap : is_carried (carries_of (chosen_layout block_lines cs)).leap ≡ is_present (get_or cs 9 0)
    pub offset : is_offset (carries_of (chosen_layout block_lines cs)).offset ≡ is_present (get_or cs 10 0)
    pub position : (carries_of (chosen_layout block_lines cs)).position ≡ position_in (get_or cs 11 0)
    pub dsp : is_carried (carries_of (chosen_layout block_lines cs)).dsp ≡ is_present (get_or cs 12 0)
    pub lsp : is_carried (carries_of (chosen_layout block_lines cs)).lsp ≡ is_present (get_or cs 13 0)

  flag_in_lem : (i : ℕ) → i < length block_lines → (key : String) (f : Slot) → only_in block_lines i f ≡ true → get_or block_lines i [] ≡ flag_line key f
      → has (chosen_layout block_lines cs) f ≡ is_present (get_or cs i 0)
  flag_in_lem i b key f p e =
      found cs o i f p ∙ ap (λ (l : Line). has (get_or l (get_or cs i 0) []) f) e
      ∙ flag_has key f (get_or cs i 0) (subst (λ (l : Line). get_or cs i 0 < length l) e (choice_lt block_lines cs o i b))

  pub laid : Laid
  unfolding carries_of every_line every_variant only_in has
  laid =
      record {
        date = rw (found cs o 0 month refl, found cs o 0 year refl, found cs o 0 ordinal refl);
        fraction = rw (found cs o 2 thousandth refl, found cs o 2 ten_millionth refl, found cs o 2 hundredth refl);
        channel = found cs o 3 Slot.channel refl ∙ second_has _ _ Slot.channel (get_or cs 3 0) refl refl (choice_lt block_lines cs o 3 (lit< tt));
        sync = rw (absent cs o quality refl, flag_in_lem 4 (lit< tt) "sync=" Slot.sync refl refl) (own_carried _);
        fix = rw (flag_in_lem 5 (lit< tt) "fix=" Slot.fix refl refl) (own_carried _);
        utc = rw (absent cs o zone refl, flag_in_lem 6 (lit< tt) "utc=" Slot.utc refl refl) (own_carried _);
        summer = rw (absent cs o zone refl, flag_in_lem 7 (lit< tt) "summer=" Slot.summer refl refl) (own_carried _);
        change = rw (absent cs o notice refl, flag_in_lem 8 (lit< tt) "change=" Slot.change refl refl) (own_carried _);
        leap = rw (absent cs o notice refl, flag_in_lem 9 (lit< tt) "leap=" Slot.leap refl refl) (own_carried _);
        offset = rw (absent cs o half_hour refl, found cs o 10 offset_hours refl, second_has _ _ offset_hours (get_or cs 10 0) refl refl (choice_lt block_lines cs o 10 (lit< tt))) (offset_carried _);
        position = rw (found cs o 11 altitude refl, found cs o 11 latitude_minute refl);
        dsp = rw (flag_in_lem 12 (lit< tt) "dsp=" Slot.dsp refl refl) (own_carried _);
        lsp = rw (flag_in_lem 13 (lit< tt) "lsp=" Slot.lsp refl refl) (own_carried _);
      }
