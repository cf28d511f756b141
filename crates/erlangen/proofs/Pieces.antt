-- The layout in its pieces: tested piece by piece, and stored piece by piece.
use Rattle.cond.proofs.Kit.{◌&&◌, ◌++◌, ◌∙◌, ◌≡◌, ap, drop, List, take, ℕ}
use Rattle.forms.specs.Places.{Layout, layout_width, shape}
use Rattle.forms.specs.Serial.{erlangen_layout}
use Rattle.forms.specs.Slots.{Values}
use Rattle.forms.proofs.Append.{shape_append}
use Rattle.places.specs.Stores.{stores}
use Rattle.places.proofs.Stored.{stores_append}
use Rattle.erlangen.specs.Layouts.{altitude_layout, date_layout, flags_layout, latitude_layout, leap_layout, longitude_layout, offset_layout, position_layout, time_layout}

-- the layout's pieces from the time, the offset, the flags and the letter of second 60 on

abbrev behind_leap : Layout
behind_leap = leap_layout ++ position_layout

abbrev behind_flags : Layout
behind_flags = flags_layout ++ behind_leap

abbrev behind_offset : Layout
behind_offset = offset_layout ++ behind_flags

abbrev behind_time : Layout
behind_time = time_layout ++ behind_offset

pub shape_pieces : (s : List ℕ)
    → shape erlangen_layout 0 s ≡ (shape date_layout 0 s && (shape time_layout 14 s && (shape offset_layout 24 s && (shape flags_layout 32 s && (shape leap_layout 37 s && (shape latitude_layout 40 s && (shape longitude_layout 50 s && shape altitude_layout 60 s)))))))
unfolding layout_width
shape_pieces s =
    shape_append date_layout behind_time 0 s
    ∙ ap (λ t. shape date_layout 0 s && t) (shape_append time_layout behind_offset 14 s
    ∙ ap (λ t. shape time_layout 14 s && t) (shape_append offset_layout behind_flags 24 s
    ∙ ap (λ t. shape offset_layout 24 s && t) (shape_append flags_layout behind_leap 32 s
    ∙ ap (λ t. shape flags_layout 32 s && t) (shape_append leap_layout position_layout 37 s
    ∙ ap (λ t. shape leap_layout 37 s && t) (shape_append latitude_layout (longitude_layout ++ altitude_layout) 40 s
    ∙ ap (λ t. shape latitude_layout 40 s && t) (shape_append longitude_layout altitude_layout 50 s))))))

pub stores_pieces : (v : Values) (o : List ℕ)
    → stores erlangen_layout 0 v o ≡ stores position_layout 40 v (stores leap_layout 37 v (stores (drop 2 flags_layout) 34 v (stores (take 2 flags_layout) 32 v (stores offset_layout 24 v (stores time_layout 14 v (stores date_layout 0 v o))))))
unfolding layout_width
stores_pieces v o =
    let a = stores date_layout 0 v o in
    let b = stores time_layout 14 v a in
    let c = stores offset_layout 24 v b in
    let d = stores (take 2 flags_layout) 32 v c in
    let e = stores (drop 2 flags_layout) 34 v d in
    stores_append date_layout behind_time 0 v o
    ∙ stores_append time_layout behind_offset 14 v a
    ∙ stores_append offset_layout behind_flags 24 v b
    ∙ stores_append (take 2 flags_layout) (drop 2 flags_layout ++ behind_leap) 32 v c
    ∙ stores_append (drop 2 flags_layout) behind_leap 34 v d
    ∙ stores_append leap_layout position_layout 37 v e

pub stores_position : (v : Values) (o : List ℕ)
    → stores position_layout 40 v o ≡ stores altitude_layout 60 v (stores longitude_layout 50 v (stores latitude_layout 40 v o))
unfolding layout_width
stores_position v o =
    stores_append latitude_layout (longitude_layout ++ altitude_layout) 40 v o ∙ stores_append longitude_layout altitude_layout 50 v (stores latitude_layout 40 v o)
