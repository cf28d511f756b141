-- A record and the block's layouts: its own choices make a layout that takes and keeps the whole record, and a layout that does so is
-- made by its own choices.
use Rattle.std.specs.Prelude.{Option}
use Rattle.cond.proofs.Kit.{[], ◌+◌, ◌<◌, ◌∙◌, ◌∷◌, ◌≡◌, ◌≤◌, ap, arith, Bool, drop, drop-cons, drop-length, get_or, length, List, lit<, refl, String, subst, suc, sym, true, zero, ℕ}
use Rattle.cond.specs.Pick.{one_if}
use Rattle.record.specs.Record.{is_good, is_yes}
use Rattle.record.specs.declared.Record.{Record}
use Rattle.forms.specs.Block.{Line, block_lines, choices, chosen_layout, flag_line}
use Rattle.forms.specs.Carries.{Carries, carries_of}
use Rattle.forms.specs.Fields.Flag.{flag_choice, has_flag, carried_flag}
use Rattle.forms.specs.Form.{is_expressible}
use Rattle.forms.specs.CarriedPart.{carried_part}
use Rattle.forms.specs.Required.{has_carried}
use Rattle.forms.specs.Places.{has_words, layout_width}
use Rattle.forms.specs.Slots.{Slot, change, dsp, fix, hour, leap, lsp, minus, minute, second, south, summer, sync, utc, west, zone}
use Rattle.forms.specs.Encode.{encode}
use Rattle.forms.proofs.Append.{width_append, has_words_append}
use Rattle.forms.proofs.BlockCarries.{laid}
use Rattle.forms.proofs.BlockLayout.{block_time}
use Rattle.forms.proofs.Bounds.{good, encode_lt}
use Rattle.forms.proofs.Choices.{channel_choice_lem, channel_own, date_choice_lem, date_own, fraction_choice_lem, fraction_own, is_present, offset_choice_lem, offset_own, position_choice_lem, position_own}
use Rattle.forms.proofs.FlagChoices.{flag_among, flag_choice_lem, flag_taken, flag_width, flag_has_words}
use Rattle.forms.proofs.Limits.{bound}
use Rattle.forms.proofs.Lines.{choice_length, choice_lt, is_choice, has_words_in}
use Rattle.forms.proofs.Required.{all_of}

-- the elements of a list from i on
unfoldable elements : ℕ → ℕ → List ℕ → List ℕ
elements i zero cs = []
elements i (suc n) cs = get_or cs i 0 ∷ elements (suc i) n cs

listed : (i n : ℕ) (cs : List ℕ) → i + n ≡ length cs → elements i n cs ≡ drop i cs
unfolding elements
listed i zero cs e =
    let q : i ≡ length cs = omega arith in
    sym (ap (λ (k : ℕ). drop k cs) q ∙ drop-length cs)
listed i (suc n) cs e = ap (λ (t : List ℕ). get_or cs i 0 ∷ t) (listed (suc i) n cs (omega arith)) ∙ sym (drop-cons cs i 0 (omega arith))

module _ (r : Record) where
  pub own_choice : is_choice block_lines (choices r) ≡ true
  unfolding is_choice
  own_choice =
      simp ((date_own r.date).among, (fraction_own r.fraction).among, (channel_own r.channel).among, flag_among, (offset_own r.offset).among, (position_own r.position).among)

  -- the layout takes the whole record
  pub own_complete : has_carried (carries_of (chosen_layout block_lines (choices r))) r ≡ true
  unfolding has_carried
  own_complete =
      let t = laid (choices r) own_choice in
      simp (t.date, (date_own r.date).taken, t.fraction, (fraction_own r.fraction).taken, t.channel, (channel_own r.channel).taken, t.sync, (flag_taken r.sync).0, t.fix, (flag_taken r.fix).0, t.utc, (flag_taken r.utc).0, t.summer, (flag_taken r.summer).0, t.change, (flag_taken r.change).0, t.leap, (flag_taken r.leap).0, t.offset, (offset_own r.offset).taken, t.position, (position_own r.position).taken, t.dsp, (flag_taken r.dsp).0, t.lsp, (flag_taken r.lsp).0)

  -- the layout keeps the whole record
  pub own_part : carried_part (carries_of (chosen_layout block_lines (choices r))) r ≡ r
  unfolding carried_part
  own_part =
      let t = laid (choices r) own_choice in
      simp (t.date, (date_own r.date).whole, t.fraction, (fraction_own r.fraction).whole, t.channel, (channel_own r.channel).whole, t.sync, (flag_taken r.sync).1, t.fix, (flag_taken r.fix).1, t.utc, (flag_taken r.utc).1, t.summer, (flag_taken r.summer).1, t.change, (flag_taken r.change).1, t.leap, (flag_taken r.leap).1, t.offset, (offset_own r.offset).whole, t.position, (position_own r.position).whole, t.dsp, (flag_taken r.dsp).1, t.lsp, (flag_taken r.lsp).1)

  -- each word list of the layout has a word for the record
  own_words : is_good r ≡ true → has_words (chosen_layout block_lines (choices r)) (encode r) ≡ true
  unfolding chosen_layout has_words bound
  own_words g =
      let below = encode_lt r (good r g) in
      let m = below minus in
      let s = below south in
      let w = below west in
      simp (has_words_append, (date_own r.date).has_word (encode r) m s w, (fraction_own r.fraction).has_word (encode r) m s w, (channel_own r.channel).has_word (encode r) m s w, flag_has_words "sync=" sync r.sync (encode r) refl, flag_has_words "fix=" fix r.fix (encode r) refl, flag_has_words "utc=" utc r.utc (encode r) refl, flag_has_words "summer=" summer r.summer (encode r) refl, flag_has_words "change=" change r.change (encode r) refl, flag_has_words "leap=" leap r.leap (encode r) refl, (offset_own r.offset).has_word (encode r) m s w, (position_own r.position).has_word (encode r) m s w, flag_has_words "dsp=" dsp r.dsp (encode r) refl, flag_has_words "lsp=" lsp r.lsp (encode r) refl)

  -- it is expressible: the time is always told
  pub own_has_words : is_good r ≡ true → is_expressible (chosen_layout block_lines (choices r)) (encode r) ≡ true
  unfolding is_expressible
  own_has_words g =
      let encode_time = block_time (choices r) own_choice in
      simp (encode_time hour refl, encode_time minute refl, encode_time second refl, own_words g)

  -- "118..174"
  pub own_size : is_good r ≡ true → (118 ≤ layout_width (chosen_layout block_lines (choices r))) × (layout_width (chosen_layout block_lines (choices r)) ≤ 174)
  unfolding chosen_layout layout_width bound
  own_size g =
      let x1 = date_own r.date in
      let x2 = fraction_own r.fraction in
      let x3 = channel_own r.channel in
      let x4 = flag_width "sync=" sync r.sync in
      let x5 = flag_width "fix=" fix r.fix in
      let x6 = flag_width "utc=" utc r.utc in
      let x7 = flag_width "summer=" summer r.summer in
      let x8 = flag_width "change=" change r.change in
      let x9 = flag_width "leap=" leap r.leap in
      let x10 = offset_own r.offset in
      let x11 = position_own r.position in
      let x12 = flag_width "dsp=" dsp r.dsp in
      let x13 = flag_width "lsp=" lsp r.lsp in
      let z = encode_lt r (good r g) zone in
      let x14 : one_if (is_yes r.utc) + one_if (is_yes r.summer) ≤ 1 = omega arith in
      simp width_append (omega arith)

-- what a layout takes and keeps whole has chosen it

module _ (cs : List ℕ) (o : is_choice block_lines cs ≡ true) (r : Record) (w : has_words (chosen_layout block_lines cs) (encode r) ≡ true) where
  flag_own : (i : ℕ) → i < length block_lines → (key : String) (f : Slot) → get_or block_lines i [] ≡ flag_line key f → (b : Bool) → b ≡ is_present (get_or cs i 0)
      → (x : Option Bool) → has_flag b x ≡ true → carried_flag b x ≡ x → encode r f ≡ one_if (is_yes x) → flag_choice x ≡ get_or cs i 0
  flag_own i l key f e b q x h k v =
      flag_choice_lem key f (get_or cs i 0) x (encode r) (subst (λ (m : Line). get_or cs i 0 < length m) e (choice_lt block_lines cs o i l)) (rw q at h) (rw q at k)
      (subst (λ (m : Line). has_words (get_or m (get_or cs i 0) []) (encode r) ≡ true) e (has_words_in block_lines cs (encode r) w o i)) v

  pub own_choices : has_carried (carries_of (chosen_layout block_lines cs)) r ≡ true → carried_part (carries_of (chosen_layout block_lines cs)) r ≡ r → choices r ≡ cs
  unfolding carried_part elements
  own_choices h k =
      let carried : Carries = carries_of (chosen_layout block_lines cs) in
      let t = laid cs o in
      let below = choice_lt block_lines cs o in
      let a = all_of carried r h in
      let c0 = date_choice_lem (get_or cs 0 0) r.date (below 0 (lit< tt)) (rw t.date at a.date) (rw t.date at (ap (λ (q : Record). q.date) k)) in
      let c1 : 0 ≡ get_or cs 1 0 = omega (arith, below 1 (lit< tt)) in
      let c2 = fraction_choice_lem (get_or cs 2 0) r.fraction (below 2 (lit< tt)) (rw t.fraction at a.fraction) (rw t.fraction at (ap (λ (q : Record). q.fraction) k)) in
      let c3 = channel_choice_lem (get_or cs 3 0) r.channel (below 3 (lit< tt)) (rw t.channel at a.channel) (rw t.channel at (ap (λ (q : Record). q.channel) k)) in
      let c4 = flag_own 4 (lit< tt) "sync=" sync refl _ t.sync r.sync a.sync (ap (λ (q : Record). q.sync) k) refl in
      let c5 = flag_own 5 (lit< tt) "fix=" fix refl _ t.fix r.fix a.fix (ap (λ (q : Record). q.fix) k) refl in
      let c6 = flag_own 6 (lit< tt) "utc=" utc refl _ t.utc r.utc a.utc (ap (λ (q : Record). q.utc) k) refl in
      let c7 = flag_own 7 (lit< tt) "summer=" summer refl _ t.summer r.summer a.summer (ap (λ (q : Record). q.summer) k) refl in
      let c8 = flag_own 8 (lit< tt) "change=" change refl _ t.change r.change a.change (ap (λ (q : Record). q.change) k) refl in
      let c9 = flag_own 9 (lit< tt) "leap=" leap refl _ t.leap r.leap a.leap (ap (λ (q : Record). q.leap) k) refl in
      let c10 = offset_choice_lem (get_or cs 10 0) r.offset (below 10 (lit< tt)) (rw t.offset at a.offset) (rw t.offset at (ap (λ (q : Record). q.offset) k)) in
      let c11 = position_choice_lem (get_or cs 11 0) r.position (below 11 (lit< tt)) (rw t.position at a.position) (rw t.position at (ap (λ (q : Record). q.position) k)) in
      let c12 = flag_own 12 (lit< tt) "dsp=" dsp refl _ t.dsp r.dsp a.dsp (ap (λ (q : Record). q.dsp) k) refl in
      let c13 = flag_own 13 (lit< tt) "lsp=" lsp refl _ t.lsp r.lsp a.lsp (ap (λ (q : Record). q.lsp) k) refl in
      let whole : elements 0 14 cs ≡ cs = listed 0 14 cs (sym (choice_length block_lines cs o)) in
      cc
