-- What the arguments of the program ask for.
use Rattle.std.specs.Prelude.{◌≡◌, ℕ, List, [], ◌∷◌, ◌++◌, length, Ok, Err, codes, Result, ◌≢◌, slice_index_or}
use Rattle.cli.specs.declared.command.CommandName.{CommandName}
use Rattle.cli.specs.declared.command.CommandName.TheVariants.{List as list, Vet, Help}
use Rattle.cli.specs.declared.command.Command.{Command}
use Rattle.cli.specs.declared.command.Command.TheVariants.{List as ListImage, Vet as VetImage, Help as ShowHelp}
use Rattle.cli.specs.declared.usage.Usage.{Usage}
use Rattle.cli.specs.declared.usage.Usage.TheVariants.{Unknown, Files}

-- the name of a command, its first argument
abbrev pub name_of : CommandName → List ℕ
name_of list = codes "list"
name_of Vet = codes "vet"
name_of Help = codes "help"

-- how many arguments a command has, its name included
abbrev pub arguments_of : CommandName → ℕ
arguments_of list = 2
arguments_of Vet = 3
arguments_of Help = 1

-- the command of that name, or a refusal where no command has it
abbrev pub Found : List ℕ → Result CommandName Usage → Type 0
Found word (Ok c) = word ≡ name_of c
Found word (Err Unknown) = (c : CommandName) → word ≢ name_of c
Found word (Err (Files c)) = ⊥

-- the first argument names the command
abbrev pub Named : List (List ℕ) → CommandName → Type 0
Named arguments c = slice_index_or arguments 0 [] ≡ name_of c

-- a command that is named and has its arguments, which are the files' names, or what is wrong
abbrev pub Asked : List (List ℕ) → Result Command Usage → Type 0
Asked arguments (Ok (ListImage image)) = arguments ≡ name_of list ∷ image.now ∷ []
Asked arguments (Ok (VetImage image sheet)) = arguments ≡ name_of Vet ∷ image.now ∷ sheet.now ∷ []
Asked arguments (Ok ShowHelp) = arguments ≡ name_of Help ∷ []
Asked arguments (Err Unknown) = (c : CommandName) → Named arguments c → ⊥
Asked arguments (Err (Files c)) = Named arguments c × (length arguments ≢ arguments_of c)

-- the name of a command that is named and has as many arguments as it takes, or what is wrong
abbrev pub NameAsked : List (List ℕ) → Result CommandName Usage → Type 0
NameAsked arguments (Ok c) = Named arguments c × (length arguments ≡ arguments_of c)
NameAsked arguments (Err Unknown) = (c : CommandName) → Named arguments c → ⊥
NameAsked arguments (Err (Files c)) = Named arguments c × (length arguments ≢ arguments_of c)

-- the form of a command with its files
abbrev pub form_of : CommandName → List ℕ
form_of list = codes "list IMAGE"
form_of Vet = codes "vet IMAGE SHEET"
form_of Help = codes "help alone"

-- what was expected
abbrev pub expected_text : Usage → List ℕ
expected_text Unknown = codes "list, vet or help"
expected_text (Files c) = form_of c

-- the line that says so
abbrev pub usage_text : Usage → List ℕ
usage_text u = codes "expected " ++ (expected_text u ++ codes "; try 'minirisc help'")
