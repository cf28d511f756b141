-- The answers of a reader's last tests, 4 and 5, and of a writer's, 7, 8, 9 and 10, test by test.
use Rattle.std.specs.Prelude.{Ok, Err}
use Rattle.cond.proofs.Kit.{◌<◌, ◌≡◌, ◌≤◌, Bool, false, le-leb, lt-leb, true, ℕ}
use Rattle.record.specs.declared.refusal.Refusal.TheVariants as refusal
use Rattle.record.specs.declared.Record.{Record}
use Rattle.places.specs.Admitted.{admitted}
use Rattle.places.specs.Validated.{verdict}

module _ (a b : Bool) (r : Record) where
  pub out_of_range : a ≡ false → Err refusal.OutOfRange ≡ verdict a b r
  unfolding verdict
  out_of_range x = simp x

  pub disagreement : a ≡ true → b ≡ false → Err refusal.Disagreement ≡ verdict a b r
  unfolding verdict
  disagreement x y = simp (x, y)

  pub read_as_lem : a ≡ true → b ≡ true → Ok r ≡ verdict a b r
  unfolding verdict
  read_as_lem x y = simp (x, y)

module _ (g c e : Bool) (size room : ℕ) where
  pub bad_record : g ≡ false → Err refusal.BadRecord ≡ admitted g c e size room
  unfolding admitted
  bad_record x = simp x

  pub missing_field : g ≡ true → c ≡ false → Err refusal.MissingField ≡ admitted g c e size room
  unfolding admitted
  missing_field x y = simp (x, y)

  pub not_expressible : g ≡ true → c ≡ true → e ≡ false → Err refusal.NotExpressible ≡ admitted g c e size room
  unfolding admitted
  not_expressible x y z = simp (x, y, z)

  pub short_buffer : g ≡ true → c ≡ true → e ≡ true → room < size → Err refusal.ShortBuffer ≡ admitted g c e size room
  unfolding admitted
  short_buffer x y z l = simp (x, y, z, lt-leb size room l)

  pub taken : g ≡ true → c ≡ true → e ≡ true → size ≤ room → Ok size ≡ admitted g c e size room
  unfolding admitted
  taken x y z l = simp (x, y, z, le-leb size room l)
