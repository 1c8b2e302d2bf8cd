-- Pieces of SVG.
use Rattle.std.specs.Prelude.{ℕ, List, [], ◌∷◌, ◌++◌, ◌==◌, if◌then◌else◌, codes, decimal}
use Rattle.std.specs.List.{flat_map}
use Rattle.gmp_draw.specs.declared.svg.Area.{Area}

-- a byte of a text: what would be read as markup has an entity
abbrev pub escaped_byte : ℕ → List ℕ
escaped_byte b = if b == 60 then codes "&lt;" else if b == 62 then codes "&gt;" else if b == 38 then codes "&amp;" else b ∷ []

abbrev pub escaped : List ℕ → List ℕ
escaped text = flat_map escaped_byte text

unfoldable pub attribute : List ℕ → ℕ → List ℕ
attribute name n = codes " " ++ name ++ codes "=\"" ++ decimal n ++ codes "\""

-- an element of a class, up to its further attributes
unfoldable pub opening : List ℕ → List ℕ → List ℕ
opening name class = codes "<" ++ name ++ codes " class=\"" ++ class ++ codes "\""

unfoldable pub place : ℕ → ℕ → List ℕ
place x y = attribute (codes "x") x ++ attribute (codes "y") y

unfoldable pub size : ℕ → ℕ → List ℕ
size width height = attribute (codes "width") width ++ attribute (codes "height") height

unfoldable pub rect : List ℕ → Area → List ℕ
rect class area = opening (codes "rect") class ++ place area.x area.y ++ size area.width area.height ++ codes "/>"

unfoldable pub words : List ℕ → ℕ → ℕ → List ℕ
words class x y = opening (codes "text") class ++ place x y ++ codes ">"
