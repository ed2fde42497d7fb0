-- What contracts see of a shelf and of a token. All of it is this project's own.
use Rattle.boxcar.specs.Table.{Shelves, Where, Shows}

-- which shelf: boxcar's names of the memory that its values stand in
abbrev pub ShelfName : Type 0
ShelfName = Shelves

-- what a token shows: an index, the value placed there, and the name of the memory that it stands in
abbrev pub Placed : Type 0 → Type 0
Placed T = Where T

-- the token is of this shelf
abbrev pub IsOf : {T : Type 0} → ShelfName → Placed T → Type 0
IsOf shelf token = Shows shelf token
