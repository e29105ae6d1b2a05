-- The fifteen refusals: the number, the name, the place and the text of each.
use Rattle.std.specs.Prelude.{◌≡◌, ℕ, List, [], ◌++◌, Some, None, codes, decimal, Option}
use Rattle.hexadecimal.specs.Hexadecimal.{two_digits}
use Rattle.refusal.specs.declared.place.Place.{Place}
use Rattle.refusal.specs.declared.place.Place.TheVariants.{Sheet, Image}
use Rattle.refusal.specs.declared.refusal.Refusal.{Refusal}
use Rattle.refusal.specs.declared.refusal.Refusal.TheVariants.{ImageSize, SheetEnd, SheetWord, SheetRange, MainWord, MainReturn, MainRegister, HandlerWord, HandlerReturn, HandlerWrite, Depth, Register, Port, Budget, BurnBuffer}

-- the number of a refusal
abbrev pub number_of : Refusal → ℕ
number_of ImageSize = 1
number_of SheetEnd = 2
number_of (SheetWord index) = 3
number_of (SheetRange index) = 4
number_of (MainWord at) = 5
number_of (MainReturn at) = 6
number_of (MainRegister at) = 7
number_of (HandlerWord at) = 8
number_of (HandlerReturn at) = 9
number_of (HandlerWrite at) = 10
number_of Depth = 11
number_of Register = 12
number_of Port = 13
number_of Budget = 14
number_of BurnBuffer = 15

-- its name
abbrev pub name_of : Refusal → List ℕ
name_of ImageSize = codes "image size"
name_of SheetEnd = codes "sheet end"
name_of (SheetWord index) = codes "sheet word"
name_of (SheetRange index) = codes "sheet range"
name_of (MainWord at) = codes "main word"
name_of (MainReturn at) = codes "main return"
name_of (MainRegister at) = codes "main register"
name_of (HandlerWord at) = codes "handler word"
name_of (HandlerReturn at) = codes "handler return"
name_of (HandlerWrite at) = codes "handler write"
name_of Depth = codes "depth"
name_of Register = codes "register"
name_of Port = codes "port"
name_of Budget = codes "budget"
name_of BurnBuffer = codes "burn buffer"

-- its place: an index in the sheet, an address of the image, or 0
abbrev pub place_of : Refusal → ℕ
place_of ImageSize = 0
place_of SheetEnd = 0
place_of (SheetWord index) = index
place_of (SheetRange index) = index
place_of (MainWord at) = at
place_of (MainReturn at) = at
place_of (MainRegister at) = at
place_of (HandlerWord at) = at
place_of (HandlerReturn at) = at
place_of (HandlerWrite at) = at
place_of Depth = 0
place_of Register = 0
place_of Port = 0
place_of Budget = 0
place_of BurnBuffer = 0

-- the address of the image that it points at, if it does
abbrev pub address_of : Refusal → Option ℕ
address_of ImageSize = None
address_of SheetEnd = None
address_of (SheetWord index) = None
address_of (SheetRange index) = None
address_of (MainWord at) = Some at
address_of (MainReturn at) = Some at
address_of (MainRegister at) = Some at
address_of (HandlerWord at) = Some at
address_of (HandlerReturn at) = Some at
address_of (HandlerWrite at) = Some at
address_of Depth = None
address_of Register = None
address_of Port = None
address_of Budget = None
address_of BurnBuffer = None

-- an index in the sheet as text, in decimal
abbrev pub index_text : ℕ → List ℕ
index_text index = codes " at " ++ decimal index

-- an address of the image as text, in hexadecimal
abbrev pub address_text : ℕ → List ℕ
address_text at = codes " at 0x" ++ two_digits at

-- the place as text, or nothing where there is none to tell
abbrev pub place_text : Refusal → List ℕ
place_text ImageSize = []
place_text SheetEnd = []
place_text (SheetWord index) = index_text index
place_text (SheetRange index) = index_text index
place_text (MainWord at) = address_text at
place_text (MainReturn at) = address_text at
place_text (MainRegister at) = address_text at
place_text (HandlerWord at) = address_text at
place_text (HandlerReturn at) = address_text at
place_text (HandlerWrite at) = address_text at
place_text Depth = []
place_text Register = []
place_text Port = []
place_text Budget = []
place_text BurnBuffer = []

-- the text of a refusal: refused, its number, its name and its place
abbrev pub refusal_text : Refusal → List ℕ
refusal_text r = codes "refused " ++ (decimal (number_of r) ++ (codes " " ++ (name_of r ++ place_text r)))

-- a place without the words before it
abbrev pub text_of_place : Place → List ℕ
text_of_place (Sheet index) = decimal index
text_of_place (Image at) = codes "0x" ++ two_digits at

-- the place where a refusal arose, if there is one, has its number, its address and its text
abbrev pub AroseAt : Refusal → Option Place → Type 0
AroseAt r (Some (Sheet index)) = (place_of r ≡ index) × (address_of r ≡ None) × (place_text r ≡ index_text index)
AroseAt r (Some (Image at)) = (place_of r ≡ at) × (address_of r ≡ Some at) × (place_text r ≡ address_text at)
AroseAt r None = (place_of r ≡ 0) × (address_of r ≡ None) × (place_text r ≡ [])
