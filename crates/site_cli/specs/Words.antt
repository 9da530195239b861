-- The command line.
use Rattle.std.specs.Prelude.{ℕ, List, [], ◌∷◌, codes, Bool, true, false, nat_le, if◌then◌else◌, Option, Some, None, option_map, option_and_then}
use Rattle.std.specs.String.{string_bytes}
use Rattle.std.specs.Str.{bytes_eq}
use Rattle.clap.specs.Words.{App, Row, Rule, Text, new_app, new_rule, with_rule, with_subcommand, subcommand_of, fault_of, first_of, Kinds}
use Rattle.clap.specs.declared.builder.action.ArgAction.TheVariants.{SetTrue}
use Rattle.content_rows.specs.IdText.{id_of}
use Rattle.drill_input.specs.Number.{number_of}
use Rattle.serve_store.specs.Job.{ToServe, to_serve}
use Rattle.site_cli.specs.declared.words.Job.{Job}
use Rattle.site_cli.specs.declared.words.Job.TheVariants as job

-- what the words after the program's name ask for: one connection, over the site of the file of rows of that path, or
-- over the starter site; or to serve the site of a store; or to fill the store of that path with rows, to write its rows out,
-- to check it, or to list its targets; or the drill that is made from a number
pub data Asked : Type 0 where
  replay : Option (List ℕ) → Asked
  serves : ToServe → Asked
  imports : List ℕ → Asked
  exports : List ℕ → Asked
  checks : List ℕ → Asked
  lists : List ℕ → Asked
  drills : ℕ → Asked

abbrev pub asked_of : Job → Asked
asked_of (job.Replay path) = replay (option_map string_bytes path)
asked_of (job.Serve serving) = serves (to_serve serving)
asked_of (job.Import path) = imports (string_bytes path)
asked_of (job.Export path) = exports (string_bytes path)
asked_of (job.Check path) = checks (string_bytes path)
asked_of (job.Targets path) = lists (string_bytes path)
asked_of (job.Drill number) = drills number

-- `replay [ROWS]`
abbrev pub replay_app : App
replay_app = with_rule (new_app (codes "replay")) (new_rule (codes "ROWS"))

-- an option with this name, which is given or not, and one that is to be given
abbrev pub option_rule : List ℕ → Rule
option_rule name = record (new_rule name) { long = Some name }

abbrev pub required_rule : List ℕ → Rule
required_rule name = record (new_rule name) { long = Some name; required = true }

-- a flag with this name, which takes no value
abbrev pub flag_rule : List ℕ → Rule
flag_rule name = record (new_rule name) { long = Some name; action = Some SetTrue }

-- `serve --store PATH --listen ADDR`
abbrev pub bare_serve_app : App
bare_serve_app = with_rule (with_rule (new_app (codes "serve")) (required_rule (codes "store"))) (required_rule (codes "listen"))

-- `serve --store PATH --listen ADDR [--workers N] [--limit M] [--warm]`
abbrev pub serve_app : App
serve_app = with_rule (with_rule (with_rule bare_serve_app (option_rule (codes "workers"))) (option_rule (codes "limit"))) (flag_rule (codes "warm"))

-- a subcommand that works on a store
abbrev pub store_app : List ℕ → App
store_app name = with_rule (new_app name) (required_rule (codes "store"))

-- `drill N`
abbrev pub drill_app : App
drill_app = with_rule (new_app (codes "drill")) (record (new_rule (codes "N")) { required = true })

-- `site`, of whose subcommands one is to be named; the program's name isn't among the words
abbrev pub site_app : App
site_app = record (new_app (codes "site")) { top = record (new_app (codes "site")).top { no_binary_name = true; subcommand_required = true } }

abbrev pub synopsis : App
synopsis =
    with_subcommand (with_subcommand (with_subcommand (with_subcommand (with_subcommand (with_subcommand (with_subcommand site_app replay_app.top)
    serve_app.top) (store_app (codes "import")).top) (store_app (codes "export")).top) (store_app (codes "check")).top)
    (store_app (codes "targets")).top) drill_app.top

-- the job of that name on the store of a path
abbrev pub store_job : List ℕ → Option (List ℕ) → Option Asked
store_job name None = None
store_job name (Some path) =
    if bytes_eq name (codes "import") then Some (imports path) else
    if bytes_eq name (codes "export") then Some (exports path) else
    if bytes_eq name (codes "check") then Some (checks path) else
    if bytes_eq name (codes "targets") then Some (lists path) else None

-- the number that a text writes in decimal, without a sign or a leading zero: from 1 to the greatest, which has 9 digits at most
abbrev pub number_to : ℕ → List ℕ → Option ℕ
number_to greatest text = option_and_then (λ number. if nat_le number greatest then Some number else None) (id_of text)

-- the number that is given, or the one that stands for none
abbrev pub number_or : ℕ → ℕ → Option (List ℕ) → Option ℕ
number_or default greatest None = Some default
number_or default greatest (Some text) = number_to greatest text

-- how many workers there are: from 1 to 16, and 4 where none is given
abbrev pub workers_in : List Row → Option ℕ
workers_in found = number_or 4 16 (first_of (codes "workers") found)

-- how many connections are served: from 1 to 1,000,000, and 2^63 where none is given
abbrev pub limit_in : List Row → Option ℕ
limit_in found = number_or 9223372036854775808 1000000 (first_of (codes "limit") found)

-- whether a flag is given, which clap tells as a text
abbrev pub is_given : Option (List ℕ) → Bool
is_given None = false
is_given (Some text) = bytes_eq text (codes "true")

-- whether the pages that anybody may see are rendered before the workers start
abbrev pub warm_in : List Row → Bool
warm_in found = is_given (first_of (codes "warm") found)

-- what is to be served, where all of it is said
abbrev pub serve_job : Option (List ℕ) → Option (List ℕ) → Option ℕ → Option ℕ → Bool → Option Asked
serve_job (Some store) (Some address) (Some workers) (Some limit) warm =
    Some (serves (record { store = store; address = address; workers = workers; limit = limit; warm = warm }))
serve_job _ _ _ _ _ = None

-- the number of a drill, where it is given as one
abbrev pub number_given : Option (List ℕ) → Option ℕ
number_given text = option_and_then number_of text

-- the job of a subcommand, by its name and what was found of its arguments
abbrev pub named_job : List ℕ → List Row → Option Asked
named_job name found =
    if bytes_eq name (codes "replay") then Some (replay (first_of (codes "ROWS") found)) else
    if bytes_eq name (codes "serve") then serve_job (first_of (codes "store") found) (first_of (codes "listen") found) (workers_in found) (limit_in found) (warm_in found) else
    if bytes_eq name (codes "drill") then option_map drills (number_given (first_of (codes "N") found)) else
    store_job name (first_of (codes "store") found)

abbrev pub job_of : Option (Text × List Row) → Option Asked
job_of None = None
job_of (Some named) = named_job named.0 named.1

abbrev pub unless_faulty : Kinds → Option Asked → Option Asked
unless_faulty [] asked = asked
unless_faulty (kind ∷ kinds) asked = None

-- the job that the words name, by what clap makes of them; none where it finds a fault
abbrev pub asked : List (List ℕ) → Option Asked
asked words = unless_faulty (fault_of synopsis words) (job_of (subcommand_of synopsis words))

-- what is printed where the words are no command line
unfoldable pub usage : List ℕ
usage = codes "usage: site replay|serve|import|export|check|drill\n"
