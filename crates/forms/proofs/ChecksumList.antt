-- The checksums of a form: written, each holds; read, each is the one that is written again.
use Rattle.cond.proofs.Kit.{[], ◌&&◌, ◌∙◌, ◌∷◌, ◌≡◌, ap, Bool, eq-eqb, eqb, eqb-true, false, false≢true, List, not, not-true, refl, subst, sym, true, ℕ}
use Rattle.cond.specs.Pick.{pick}
use Rattle.cond.proofs.Tests.{both, either_way, or_left, or_right}
use Rattle.forms.specs.All.{all}
use Rattle.forms.specs.Checksum.{Checksum, checksum_of, checksum_tests, checksums_hold, with_checksums}
use Rattle.forms.specs.Places.{Layout, has}
use Rattle.forms.specs.Slots.{Slot, Values, among, is_checksum, same}
use Rattle.forms.proofs.All.{all_cons, cons_all, test_at}
use Rattle.forms.proofs.Checksums.{unchecked_from}
use Rattle.forms.proofs.Slots.{same_slot, slot_self}

-- the slots of the checksums
abbrev pub slots_of : List Checksum → List Slot
slots_of [] = []
slots_of (c ∷ cs) = c.slot ∷ slots_of cs

-- the layout has the checksum's slot, which no other has, and its bytes tell no checksum
abbrev pub checksum_sound : Layout → Checksum → List Checksum → Bool
checksum_sound ps c cs =
    all (is_checksum c.slot ∷ has ps c.slot ∷ not (among c.slot (slots_of cs)) ∷ unchecked_from ps c.from c.count ∷ [])

unfoldable pub checksums_sound : Layout → List Checksum → Bool
checksums_sound ps [] = true
checksums_sound ps (c ∷ cs) = checksum_sound ps c cs && checksums_sound ps cs

pub record Sound (ps : Layout) (c : Checksum) (cs : List Checksum) : Type 0 where
  pub is_of_checksum : is_checksum c.slot ≡ true
  pub placed : has ps c.slot ≡ true
  pub alone : among c.slot (slots_of cs) ≡ false
  pub unchecked : unchecked_from ps c.from c.count ≡ true
  pub others : checksums_sound ps cs ≡ true

pub sound_of : (ps : Layout) (c : Checksum) (cs : List Checksum) → checksums_sound ps (c ∷ cs) ≡ true → Sound ps c cs
unfolding checksums_sound
sound_of ps c cs h =
    let a = both (checksum_sound ps c cs) (checksums_sound ps cs) h in
    let at =
    test_at
    (is_checksum c.slot ∷ has ps c.slot ∷ not (among c.slot (slots_of cs)) ∷ unchecked_from ps c.from c.count ∷ [])
    a.0 in
    record { is_of_checksum = at 0; placed = at 1; alone = not-true _ (at 2); unchecked = at 3; others = a.1 }

-- a slot that tells no checksum is none of theirs
pub not_checked : (ps : Layout) (cs : List Checksum) → checksums_sound ps cs ≡ true → (f : Slot) → is_checksum f ≡ false → among f (slots_of cs) ≡ false
not_checked ps [] o f n = refl
not_checked ps (c ∷ cs) o f n =
    let a = sound_of ps c cs o in
    either_way (same f c.slot) (λ q. absurd (false≢true (sym n ∙ ap is_checksum (same_slot f c.slot q) ∙ a.is_of_checksum)))
    (λ q. rw q (not_checked ps cs a.others f n))

-- it keeps its value
pub other_value : (cs : List Checksum) (s : List ℕ) (v : Values) (f : Slot) → among f (slots_of cs) ≡ false → with_checksums cs s v f ≡ v f
other_value [] s v f h = refl
other_value (c ∷ cs) s v f h =
    either_way (same f c.slot) (λ e. absurd (false≢true (sym (rw e at h)))) (λ e. rw e (other_value cs s v f (rw e at h)))

-- a slot of another checksum is not this one's
no_other : (f : Slot) (c : Checksum) (cs : List Checksum) (t : List ℕ) (w : Values) → among f (slots_of cs) ≡ true → among c.slot (slots_of cs) ≡ false
    → (b : Bool) → same f c.slot ≡ b → pick b (checksum_of c t) (with_checksums cs t w f) ≡ with_checksums cs t w f
no_other f c cs t w i n true q = absurd (false≢true (sym n ∙ subst (λ (g : Slot). among g (slots_of cs) ≡ true) (same_slot f c.slot q) i))
no_other f c cs t w i n false q = refl

-- the checksums of t, which are those of s, hold of s where they are told
pub written_hold : (ps : Layout) (cs : List Checksum) (s t : List ℕ) (v w : Values) → checksums_sound ps cs ≡ true
    → ((c : Checksum) → unchecked_from ps c.from c.count ≡ true → checksum_of c t ≡ checksum_of c s)
    → ((f : Slot) → has ps f ≡ true → among f (slots_of cs) ≡ true → v f ≡ with_checksums cs t w f) → checksums_hold cs s v ≡ true
unfolding checksums_hold
written_hold ps [] s t v w o e h = refl
written_hold ps (c ∷ cs) s t v w o e h =
    let a = sound_of ps c cs o in
    let here : v c.slot ≡ checksum_of c s = h c.slot a.placed (or_left _ _ (slot_self c.slot)) ∙ simp (slot_self c.slot) (e c a.unchecked) in
    cons_all (eqb (v c.slot) (checksum_of c s)) (checksum_tests cs s v) (eq-eqb _ _ here)
    (written_hold ps cs s t v w a.others e (λ f i j. h f i (or_right (same f c.slot) _ j) ∙ no_other f c cs t w j a.alone (same f c.slot) refl))

-- the checksums that a string tells are those that are written again
pub checksums_again : (ps : Layout) (cs : List Checksum) (s t : List ℕ) (v w : Values) → checksums_sound ps cs ≡ true
    → ((c : Checksum) → unchecked_from ps c.from c.count ≡ true → checksum_of c t ≡ checksum_of c s) → checksums_hold cs s v ≡ true
    → (f : Slot) → among f (slots_of cs) ≡ true → with_checksums cs t w f ≡ v f
unfolding checksums_hold
checksums_again ps [] s t v w o e h f i = absurd (false≢true i)
checksums_again ps (c ∷ cs) s t v w o e h f i =
    let a = sound_of ps c cs o in
    let b = all_cons (eqb (v c.slot) (checksum_of c s)) (checksum_tests cs s v) h in
    either_way (same f c.slot) (λ q. rw q (e c a.unchecked ∙ sym (eqb-true _ _ b.0) ∙ ap v (sym (same_slot f c.slot q))))
    (λ q. rw q (checksums_again ps cs s t v w a.others e b.1 f (rw q at i)))
