-- A state of the ring is a state of the stream: a byte stored in the ring moves it on as the step over the kept bytes does.
use Rattle.listener.specs.declared.passing.Moved.{Moved}
use Rattle.std.specs.Prelude.{None, Result, Err, Option, Ok, Some}
use Rattle.record.specs.declared.Record.{Record}
use Rattle.record.specs.declared.refusal.Refusal.{Refusal}
use Rattle.cond.proofs.Kit.{[], ◌++◌, ◌+◌, ◌-◌, ◌<◌, ◌||◌, ◌∙◌, ◌∷◌, ◌≡◌, ◌≤◌, ap, arith, Bool, drop, drop-append-le, drop-drop, eq-eqb, eqb, eqb-false, eqb-true, false, false≢true, get_or, get_or_at, get_or-drop, le-leb, le-ltb, leb-true, length, length-append, length-drop, length-set, List, lt-leb, lt-ltb, ltb, ltb-true, min, not, refl, set, subst, sym, true, ℕ}
use Rattle.cond.proofs.Tests.{both, either_way}
use Rattle.cond.specs.Pick.{pick}
use Rattle.record.specs.declared.refusal.Refusal.TheVariants as refusal
use Rattle.forms.specs.Forms.{is_serial}
use Rattle.forms.specs.Valid.{length_of, record_in, valid_of}
use Rattle.serial.proofs.Lengths.{length_most, serial_long, some_serial}
use Rattle.stream.specs.Distance.{distance_after, step_answer, unless_overlap}
use Rattle.stream.specs.Listener.{hit, kept_after}
use Rattle.stream.specs.Window.{last_of}
use Rattle.serial.specs.Shape.{longest, shape_of}
use Rattle.serial.specs.declared.Shape.{Shape}
use Rattle.listener.specs.Listening.{FedBy, answer_by, answer_of, answer_to, is_bad, moved_by, next_by, next_of, state_of}
use Rattle.listener.specs.Passing.{passes, passing_of}
use Rattle.listener.specs.Ring.{oldest_first, place_of, wrapped}
use Rattle.listener.specs.declared.Fed.{Fed}
use Rattle.listener.specs.declared.Listener.{Listener}
use Rattle.listener.proofs.Rings.{place_small, ring_length, ring_set, wrapped_small}
use Rattle.listener.proofs.Starts.{pick_has}
use Rattle.listener.proofs.Windows.{other_end}

-- what refusal 11 names

module _ (n : ℕ) (l : Listener) (is : n ≡ length_of l.form) where
  pub many_kept : n ≤ l.kept → is_bad n l ≡ true
  unfolding is_bad
  many_kept h = go (is_serial l.form) refl
    where
      go : (t : Bool) → is_serial l.form ≡ t → (not t || (ltb (n - 1) l.kept || ltb n l.distance)) ≡ true
      go true e = let z = serial_long l.form e in rw (lt-ltb (n - 1) l.kept (omega arith))
      go false e = refl

  module _ (small : l.kept < n) where
    known : is_serial l.form ≡ true
    known = some_serial l.form (λ e. omega arith)

    pub far_away : n < l.distance → is_bad n l ≡ true
    unfolding is_bad
    far_away h = rw (known, le-ltb (n - 1) l.kept (omega arith), lt-ltb n l.distance h)

    pub not_bad : l.distance ≤ n → is_bad n l ≡ false
    unfolding is_bad
    not_bad h = rw (known, le-ltb (n - 1) l.kept (omega arith), le-ltb n l.distance h)

-- the kept bytes in the ring

module _ (l : Listener) (b n : ℕ) (sized : length l.bytes ≡ longest) (small : l.kept < n) (most : n ≤ longest) where
  abbrev ring : List ℕ
  ring = oldest_first (place_of l.at) l.bytes

  long : length ring ≡ longest
  long = ring_length l.bytes (place_of l.at) (place_small l.at) sized

  -- the ring with the byte
  abbrev next : List ℕ
  next = oldest_first (wrapped (place_of l.at + 1)) (set l.bytes (place_of l.at) b)

  turned : next ≡ drop 1 (ring ++ (b ∷ []))
  turned = ring_set l.bytes (place_of l.at) (place_small l.at) sized b

  longer : (state_of l).kept ++ (b ∷ []) ≡ drop (longest - l.kept) (ring ++ (b ∷ []))
  unfolding state_of last_of
  longer = rw long (sym (drop-append-le (longest - l.kept) ring (b ∷ []) (omega (arith, long))))

  pub kept_length : length (state_of l).kept ≡ l.kept
  unfolding state_of last_of
  kept_length = rw (length-drop, long) (omega arith)

  last_turned : (m : ℕ) → m ≤ longest → last_of m next ≡ drop (longest + 1 - m) (ring ++ (b ∷ []))
  unfolding last_of
  last_turned m h =
      let e : 1 + (longest + 1 - 1 - m) ≡ longest + 1 - m = omega arith in
      rw (turned, length-drop, length-append, long, drop-drop, e)

  last_longer : (m : ℕ) → last_of m ((state_of l).kept ++ (b ∷ [])) ≡ drop (longest - l.kept + (l.kept + 1 - m)) (ring ++ (b ∷ []))
  unfolding last_of
  last_longer m = rw (length-append, kept_length, longer, drop-drop)

  pub hit_ring : (f : ℕ)
      → pick (eqb (l.kept + 1) n) (valid_of f (last_of n next)) None
      ≡ hit n (valid_of f) (state_of l).kept b
  unfolding hit
  hit_ring f =
      rw kept_length
      (either_way (eqb (l.kept + 1) n)
      (λ e.
      let full = eqb-true (l.kept + 1) n e in
      let k : longest + 1 - n ≡ longest - l.kept + (l.kept + 1 - n) = omega arith in
      rw (e, le-leb n (l.kept + 1) (omega arith), last_turned n most, last_longer n, k))
      (λ e. let more = eqb-false (l.kept + 1) n e in rw (e, lt-leb n (l.kept + 1) (omega arith))))

  pub kept_ring : last_of (min (l.kept + 1) (n - 1)) next ≡ kept_after (n - 1) (state_of l).kept b
  unfolding kept_after
  kept_ring =
      let k : longest + 1 - min (l.kept + 1) (n - 1) ≡ longest - l.kept + (l.kept + 1 - (n - 1)) = omega arith in
      rw (last_turned (min (l.kept + 1) (n - 1)) (omega arith), last_longer (n - 1), k)

-- the newest byte of the ring
pub newest_byte : (x : List ℕ) (place b : ℕ) (y : List ℕ) (up : ℕ) → place < longest → y ≡ set x place b → length y ≡ longest → up ≡ wrapped (place + 1)
    → get_or (oldest_first up y) (longest - 1) 0 ≡ b
newest_byte x place b y up h ey long eu =
    let sized : length x ≡ longest = sym (length-set x place b) ∙ ap length (sym ey) ∙ long in
    let l : length (oldest_first place x) ≡ longest = ring_length x place h sized in
    rw (ey, eu, ring_set x place h sized b, get_or-drop) (get_or_at (oldest_first place x) b [] 0 longest l)

-- what `feed` answers and leaves

module _ (l : Listener) (b n : ℕ) (is : n ≡ length_of l.form) where
  pub refused_state : is_bad n l ≡ true → FedBy l b (record { next = l; heard = Err refusal.BadState })
  unfolding next_of next_by answer_to answer_by
  refused_state h = record { next = rw (← is, h); answer = rw (← is, h) }

  module _ (small : l.kept < n) (near : l.distance ≤ n) (most : n ≤ longest) (sized : length l.bytes ≡ longest) where
    pub answer_is : answer_to l b ≡ step_answer n (valid_of l.form) (state_of l) b
    unfolding answer_to answer_by
    answer_is = rw (← is, not_bad n l is small near)

    pub next_is : next_of l b ≡ moved_by n l b (answer_to l b)
    unfolding next_of next_by answer_to
    next_is = rw (← is, not_bad n l is small near)

    pub moves_on :
        (place up kept distance : ℕ) (y : List ℕ) (reading : Result Record Refusal) (answer : Result (Option Record) Refusal)
        → place ≡ place_of l.at → y ≡ set l.bytes place b → up ≡ wrapped (place + 1)
        → record_in reading ≡ pick (eqb (l.kept + 1) n) (valid_of l.form (last_of n (oldest_first up y))) None
        → answer_of answer ≡ unless_overlap n l.distance (record_in reading) → kept ≡ min (l.kept + 1) (n - 1)
        → distance ≡ distance_after n l.distance (answer_of answer)
        → FedBy l b (record { next = record { bytes = y; at = up; kept = kept; distance = distance; form = l.form }; heard = answer })
    unfolding next_of next_by moved_by answer_by step_answer state_of
    moves_on place up kept distance y reading answer ep ey eu er ea ek ed =
        record { next = rw (← is, not_bad n l is small near, ek, ed, encode, eu, ey, ep); answer = encode ∙ sym answer_is }
      where
        encode : answer_of answer ≡ unless_overlap n l.distance (hit n (valid_of l.form) (state_of l).kept b)
        encode =
            let o : record_in reading ≡ hit n (valid_of l.form) (state_of l).kept b = er ∙ rw (eu, ey, ep) (hit_ring l b n sized small most l.form) in
            ea ∙ ap (unless_overlap n l.distance) o

-- a byte that is not the form's last one moves the ring on, and nothing is handed out

-- the form stays

pub next_form : (l : Listener) (b : ℕ) → (next_of l b).form ≡ l.form
unfolding next_of next_by moved_by
next_form l b = pick_has (λ (x : Listener). x.form ≡ l.form) (is_bad (length_of l.form) l) _ _ (λ e. refl) (λ e. refl)

pub same_form : {l : Listener} {b : ℕ} {f : Fed} → FedBy l b f
    → f.next ≡ record { bytes = f.next.bytes; at = f.next.at; kept = f.next.kept; distance = f.next.distance; form = l.form }
same_form {l} {b} {f} fed =
    ap (λ x. record { bytes = f.next.bytes; at = f.next.at; kept = f.next.kept; distance = f.next.distance; form = x })
    (ap Listener.form fed.next ∙ next_form l b)

module _ (l : Listener) (b : ℕ) (sized : length l.bytes ≡ longest) where
  abbrev stored : ℕ → ℕ → ℕ → ℕ → Listener
  stored place at kept distance = record { bytes = set l.bytes place b; at = at; kept = kept; distance = distance; form = l.form }

  abbrev left : Listener
  left =
      stored (place_of l.at) (wrapped (place_of l.at + 1)) (min (l.kept + 1) ((shape_of l.form).length - 1))
      (min (shape_of l.form).length (l.distance + 1))

  pub plain : passes (shape_of l.form) l.kept l.distance b ≡ true → FedBy l b (record { next = left; heard = Ok None })
  plain h =
      let (k, t) = both _ _ h in
      let (d, e) = both _ _ t in
      let low = place_small l.at in
      let small : l.kept < (shape_of l.form).length = ltb-true _ _ k in
      let most = length_most l.form in
      let up = wrapped_small (place_of l.at + 1) (omega arith) in
      let long : length left.bytes ≡ longest = length-set l.bytes _ b ∙ sized in
      let newest = newest_byte l.bytes _ b _ _ low refl long refl in
      let none_ends = other_end l.form left.bytes _ _ up long (omega arith) most (eqb (l.kept + 1) _) b newest (λ q. false≢true (ap not (sym (eq-eqb b _ q)) ∙ e)) in
      moves_on l b _ refl small (leb-true _ _ d) most sized _ _ _ _ _ (Err refusal.WrongByte) (Ok None) refl refl refl none_ends refl refl refl

  -- what is known of an answer of `passing_of`
  abbrev pub Leaves : Option Moved → Type 0
  Leaves (Some m) = (m.place < longest) × FedBy l b (record { next = stored m.place m.at m.kept m.distance; heard = Ok None })
  Leaves None = Unit {0}

  pub passed : {shape : Shape} {r p : Option Moved} → shape ≡ shape_of l.form → r ≡ passing_of shape l.at l.kept l.distance b → r ≡ p → Leaves p
  unfolding passing_of
  passed es er ep =
      subst Leaves (rw es at (sym er ∙ ep))
      (pick_has Leaves (passes (shape_of l.form) l.kept l.distance b) _ _ (λ t. (place_small l.at, plain t)) (λ t. tt))
