-- The names of a night's files.
use Rattle.std.specs.Prelude.{ℕ, ◌+◌, ◌-◌, Bool, not, ◌&&◌, ◌||◌, cond, List, [], ◌∷◌, eqb, ltb, leb, length, take, drop, get_or, bytes_eq}
use Rattle.std.specs.List.{slice_split, list_all, list_any}
use Rattle.printing.specs.Printing.{ascii}
use Rattle.night_arguments.specs.Arguments.{joined_of}

-- where a name's last part begins, after its last `/` (47): i bytes are looked at, and it begins at `at` as far as these tell
abbrev pub begins_at : ℕ → ℕ → ℕ → ℕ
begins_at byte behind at = cond (eqb byte 47) behind at

unfoldable pub last_from : ℕ → ℕ → List ℕ → ℕ
last_from i at [] = at
last_from i at (c ∷ cs) = last_from (i + 1) (begins_at c (i + 1) at) cs

unfoldable pub last_at : List ℕ → ℕ
last_at name = last_from 0 0 name

abbrev pub folder_of : List ℕ → List ℕ
folder_of name = take (last_at name) name

abbrev pub last_of : List ℕ → List ℕ
last_of name = drop (last_at name) name

-- "an empty name", also a name that ends with `/`; "a name too long for its endings": a last part of 255 bytes with `.names`, a path of 4,095
-- with `.night/` and such a part
unfoldable pub is_place : List ℕ → Bool
is_place name = (ltb (last_at name) (length name) && leb (length name) 3833) && leb (length name - last_at name) 249

-- "in one folder": the same text up to the last `/`
unfoldable pub is_beside : List ℕ → List ℕ → Bool
is_beside name state = bytes_eq (folder_of name) (folder_of state)

-- a name is STATE with an ending
unfoldable pub is_with : List ℕ → List ℕ → List ℕ → Bool
is_with name state ending = bytes_eq name (joined_of state ending 4096)

-- a name is STATE, or one of the names that a night makes of it
unfoldable pub is_of_state : List ℕ → List ℕ → Bool
is_of_state name state =
    ((((bytes_eq name state || is_with name state (ascii ".rest")) || is_with name state (ascii ".names")) || is_with name state (ascii ".area"))
    || is_with name state (ascii ".night")) || is_with name state (ascii ".done")

-- SESSION has a name, and is none of the night's other files; that it is STATE.rest is how a night goes on
unfoldable pub is_read : List ℕ → List ℕ → List ℕ → List ℕ → Bool
is_read session image state output =
    ((ltb 0 (length session) && not (bytes_eq session image)) && not (bytes_eq session output))
    && (not (is_of_state session state) || is_with session state (ascii ".rest"))

-- "two arguments that name the same file", by their text; one folder makes the text tell
unfoldable pub are_names : List ℕ → List ℕ → List ℕ → List ℕ → Bool
are_names image session state output =
    (((((((is_place image && is_place state) && is_place output) && is_beside image state) && is_beside output state)
    && not (is_of_state image state)) && not (is_of_state output state)) && not (bytes_eq image output)) && is_read session image state output

-- a text cut at each `/`: its parts
unfoldable pub parts_of : List ℕ → List (List ℕ)
parts_of names = slice_split (λ (c : ℕ). eqb c 47) names

-- the names that a night commits along: the last parts of IMAGE and OUTPUT, with a `/` between them; and after another `/` that of each further file
unfoldable pub with_name : List ℕ → List ℕ → ℕ → List ℕ
with_name names file room = joined_of (joined_of names (ascii "/") 4096) (last_of file) room

unfoldable pub names_of : List ℕ → List ℕ → ℕ → List ℕ
names_of image output room = with_name (last_of image) output room

-- the name with this number, from 0
unfoldable pub name_at : ℕ → List ℕ → List ℕ
name_at k names = get_or (parts_of names) k []

-- a night has three files more than names: state, rest and names; 255 where they are too many to be numbered by a byte
unfoldable pub files_of : List ℕ → ℕ
files_of names = cond (ltb 251 (length (parts_of names))) 255 (length (parts_of names) + 3)

abbrev pub none_empty : List (List ℕ) → Bool
none_empty parts = list_all (λ (part : List ℕ). ltb 0 (length part)) parts

-- a text is two names or more, none of them empty
unfoldable pub are_recorded : List ℕ → Bool
are_recorded names = (leb 5 (files_of names) && leb (files_of names) 254) && none_empty (parts_of names)

abbrev pub is_among : List ℕ → List (List ℕ) → Bool
is_among name parts = list_any (bytes_eq name) parts

-- a further file of the night: a place beside STATE, none of STATE's, nor SESSION, nor one of those that the night has
unfoldable pub is_further : List ℕ → List ℕ → List ℕ → List ℕ → Bool
is_further file session state names =
    (((is_place file && is_beside file state) && not (is_of_state file state)) && not (bytes_eq file session)) && not (is_among (last_of file) (parts_of names))

-- the area: STATE.area, which none of the other files may be, or a further file
unfoldable pub is_area : List ℕ → List ℕ → List ℕ → List ℕ → Bool
is_area file session state names = is_with file state (ascii ".area") || is_further file session state names

-- a file by its name, in STATE's folder
unfoldable pub named_place : ℕ → List ℕ → List ℕ → ℕ → List ℕ
named_place k state names room = joined_of (folder_of state) (name_at k names) room

-- the places of a night's files, by their numbers: 0 image, 1 state, 2 rest, 3 output, 4 names, and from 5 on the further files
unfoldable pub place_of : ℕ → List ℕ → List ℕ → ℕ → List ℕ
place_of i state names room =
    cond (ltb 4 i) (named_place (i - 3) state names room)
    (get_or (named_place 0 state names room ∷ joined_of state [] room ∷ joined_of state (ascii ".rest") room ∷ named_place 1 state names room
    ∷ joined_of state (ascii ".names") room ∷ []) i [])

-- where a file stands until it is put at its place: in STATE.night/, after the commit in STATE.done/, under the last part of its place. So no
-- rename puts it at another place, also by a call that has the names of an earlier night.
unfoldable pub work_of : List ℕ → List ℕ → List ℕ → ℕ → List ℕ
work_of state folder place room = joined_of (joined_of state folder 4096) (last_of place) room
