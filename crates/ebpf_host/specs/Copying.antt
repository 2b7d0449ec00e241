-- What is copied into some room.
use Rattle.std.specs.Prelude.{List, ◌++◌, length, take, drop}

-- as many of the items as there is room for, and the rest of the room as it was
abbrev pub copied : {X : Type 0} → List X → List X → List X
copied items room = take (length room) items ++ drop (length items) room
