-- The test that a layout's slots belong together, and what it says: fields told by several places have all of them, and no field
-- is told twice.
use Rattle.cond.proofs.Kit.{[], ◌||◌, ◌∷◌, ◌≡◌, ◌≤◌, Bool, false, false≢true, leb, leb-true, List, not, not-true, true}
use Rattle.forms.specs.All.{all}
use Rattle.forms.specs.Places.{Layout, has}
use Rattle.forms.specs.Slots.{Slot, change, leap, month, notice, quality, summer, sync, utc, weekday, zone}
use Rattle.forms.proofs.All.{test_at}
use Rattle.forms.proofs.Fields.Date.{date_whole}
use Rattle.forms.proofs.Fields.Fraction.{fraction_whole}
use Rattle.forms.proofs.Fields.Offset.{offset_whole}
use Rattle.forms.proofs.Fields.Position.{position_whole}
use Rattle.forms.proofs.Limits.{most}
use Rattle.forms.proofs.LayoutLimits.{limit_of}
use Rattle.forms.proofs.Slots.{every, every_slot, slots}

abbrev pub implies : Bool → Bool → Bool
implies a b = not a || b

pub implied : (a b : Bool) → implies a b ≡ true → a ≡ true → b ≡ true
implied true b h e = h
implied false b h e = absurd (false≢true e)

-- not both
abbrev pub excludes : Bool → Bool → Bool
excludes a b = implies a (not b)

pub excluded : (a b : Bool) → excludes a b ≡ true → a ≡ true → b ≡ false
excluded a b h e = not-true b (implied a (not b) h e)

abbrev complete_tests : Layout → List Bool
complete_tests ps =
    date_whole ps
    ∷ fraction_whole ps
    ∷ offset_whole ps
    ∷ position_whole ps
    ∷ implies (has ps weekday) (has ps month)
    ∷ excludes (has ps quality) (has ps sync)
    ∷ excludes (has ps utc) (has ps zone)
    ∷ excludes (has ps summer) (has ps zone)
    ∷ excludes (has ps change) (has ps notice)
    ∷ excludes (has ps leap) (has ps notice)
    ∷ every slots (λ (f : Slot). leb (limit_of ps f) (most f))
    ∷ []

unfoldable pub is_complete : Layout → Bool
is_complete ps = all (complete_tests ps)

pub record Complete (ps : Layout) : Type 0 where
  pub date : date_whole ps ≡ true
  pub fraction : fraction_whole ps ≡ true
  pub offset : offset_whole ps ≡ true
  pub position : position_whole ps ≡ true
  pub weekday : has ps Slot.weekday ≡ true → has ps month ≡ true
  pub quality : has ps Slot.quality ≡ true → has ps sync ≡ false
  pub utc : has ps Slot.utc ≡ true → has ps zone ≡ false
  pub summer : has ps Slot.summer ≡ true → has ps zone ≡ false
  pub change : has ps Slot.change ≡ true → has ps notice ≡ false
  pub leap : has ps Slot.leap ≡ true → has ps notice ≡ false
  pub meant : (f : Slot) → limit_of ps f ≤ most f

pub complete : (ps : Layout) → is_complete ps ≡ true → Complete ps
unfolding is_complete
complete ps h =
    let at = test_at (complete_tests ps) h in
    record {
      date = at 0;
      fraction = at 1;
      offset = at 2;
      position = at 3;
      weekday = implied _ _ (at 4);
      quality = excluded _ _ (at 5);
      utc = excluded _ _ (at 6);
      summer = excluded _ _ (at 7);
      change = excluded _ _ (at 8);
      leap = excluded _ _ (at 9);
      meant = λ f. leb-true (limit_of ps f) (most f) (every_slot (λ (g : Slot). leb (limit_of ps g) (most g)) (at 10) f);
    }
