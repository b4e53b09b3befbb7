-- What is called for a request: the command, and what it is given.
use Rattle.std.specs.Prelude.{◌≡◌, ◌≢◌, ◌⊎◌, ◌<◌, ◌^◌, ◌-◌, Contains, ℕ, Bool, true, false, List, codes, if◌then◌else◌, Option, None, Some, is_some, not, ◌||◌}
use Rattle.std.specs.Option.{option_map}
use Rattle.std.specs.Str.Parse.{IsNumeral, digits_value, without_leading_plus}
use Rattle.engine_text.specs.declared.program.Engine.{Engine}
use Rattle.engine_text.specs.declared.program.Engine.TheVariants.{Dask, Ray}
use Rattle.log_words.specs.declared.contents.Contents.{Contents}
use Rattle.log_words.specs.declared.contents.Contents.TheVariants.{Cut, Whole}
use Rattle.run_commands.specs.of_fault_lists.Kinds.{Chooses, ChoosesNone, no_faults, words_of}
use Rattle.run_commands.specs.of_fault_lists.declared.choice.FaultChoice.{FaultChoice}
use Rattle.run_commands.specs.of_protocol_board.Cores.{Size}
use Rattle.run_commands.specs.declared.form.Form.{Form}
use Rattle.run_commands.specs.declared.form.Form.TheVariants.{Json, Lineage, Log as LogForm, LogWithMessages, State as StateForm, Text, TextWithBooks, TextWithSummary, Timeline, WhyMain}
use Rattle.raysim_options.specs.Reads.{AreThreads}
use Rattle.raysim_options.specs.declared.Request.{Request}
use Rattle.raysim_options.specs.declared.Request.TheVariants as asked
use Rattle.raysim_options.specs.declared.ExportOptions.{ExportOptions}
use Rattle.raysim_options.specs.declared.FaultsOptions.{FaultsOptions}
use Rattle.raysim_options.specs.declared.LogOptions.{LogOptions}
use Rattle.raysim_options.specs.declared.MigrateOptions.{MigrateOptions}
use Rattle.raysim_options.specs.declared.RunOptions.{RunOptions}
use Rattle.raysim_options.specs.declared.SimOptions.{SimOptions}
use Rattle.raysim_options.specs.declared.StateOptions.{StateOptions}
use Rattle.raysim_options.specs.declared.WhyOptions.{WhyOptions}
use Rattle.raysim_calls.specs.declared.call.Call.{Call}
use Rattle.raysim_calls.specs.declared.call.Call.TheVariants as calls
use Rattle.raysim_calls.specs.declared.call.CallFault.{CallFault}
use Rattle.raysim_calls.specs.declared.call.CallFault.TheVariants as faults
use Rattle.raysim_calls.specs.declared.call.DriveCall.{DriveCall}
use Rattle.raysim_calls.specs.declared.call.ReplayCall.{ReplayCall}
use Rattle.raysim_calls.specs.declared.call.ThreadsCall.{ThreadsCall}
use Rattle.raysim_calls.specs.declared.call.FaultsCall.{FaultsCall}
use Rattle.raysim_calls.specs.declared.call.View.{View}
use Rattle.raysim_calls.specs.declared.call.Views.{Views}
use Rattle.raysim_calls.specs.Names.{Names, NamesNone}

-- ---- clusters, forms and views

abbrev pub size : ℕ → ℕ → Size
size nodes slots = record { nodes = nodes; slots = slots }

abbrev pub contents : Bool → Contents
contents full = if full then Whole else Cut

abbrev pub report_form : Bool → Form
report_form json = if json then Json else Text

abbrev pub sim_form : SimOptions → Form
sim_form o = if o.books then TextWithBooks else if o.summary then TextWithSummary else report_form o.json

abbrev pub run_form : RunOptions → Form
run_form o = if o.summary then TextWithSummary else report_form o.json

abbrev pub log_form : LogOptions → Form
log_form o = if o.messages then LogWithMessages (contents o.full) else LogForm (contents o.full)

abbrev pub no_views : Views
no_views = record { timeline = None; lineage = None; page = None; contents = Cut; so_far = false }

abbrev pub sim_views : SimOptions → Views
sim_views o = record { timeline = o.timeline; lineage = o.lineage; page = o.page; contents = contents o.full; so_far = o.so_far }

abbrev pub run_views : RunOptions → Views
run_views o = record { timeline = o.timeline; lineage = o.lineage; page = o.page; contents = contents o.full; so_far = o.so_far }

abbrev pub log_views : LogOptions → Views
log_views o = record { timeline = None; lineage = None; page = o.page; contents = contents o.full; so_far = false }

abbrev pub timeline_of : Views → Option View
timeline_of v = option_map (λ path. record { path = path; form = Timeline v.contents }) v.timeline

abbrev pub lineage_of : Views → Option View
lineage_of v = option_map (λ path. record { path = path; form = Lineage v.contents }) v.lineage

abbrev pub is_report_alone : Views → Bool
is_report_alone v = if is_some v.timeline || is_some v.lineage then false else not (is_some v.page)

-- ---- what each request comes to

abbrev pub sim_replayed : SimOptions → ReplayCall
sim_replayed o = record { script = o.script; events = o.events; cluster = size o.nodes o.slots; explain = o.explain }

abbrev pub migrated : MigrateOptions → ReplayCall
migrated o = record { script = o.script; events = o.events; cluster = size o.nodes o.slots; explain = o.explain }

abbrev pub state_replayed : StateOptions → ReplayCall
state_replayed o = record { script = o.script; events = o.events; cluster = size o.nodes o.slots; explain = o.explain }

abbrev pub run_of : RunOptions → DriveCall
run_of o = record {
  script = o.script;
  explain = o.explain;
  cluster = size o.nodes o.slots;
  form = run_form o;
  views = run_views o;
  progress = o.progress;
  stream = o.stream;
}

abbrev pub threaded : RunOptions → ThreadsCall
threaded o = record { drive = run_of o; threads = o.threads; plan = o.plan; history = o.history }

-- on threads, where the words ask for that; and such a run has no report up to where it stops
abbrev pub IsRunBy : Bool → RunOptions → Call → Type 0
IsRunBy true o c = (o.so_far ≡ false) × (c ≡ calls.OnThreads (threaded o))
IsRunBy false o c = c ≡ calls.Drive (run_of o)

abbrev pub IsRunCall : RunOptions → Call → Type 0
IsRunCall o c = IsRunBy o.on_threads o c

abbrev pub IsRunFault : RunOptions → CallFault → Type 0
IsRunFault o f = (o.on_threads ≡ true) × (o.so_far ≡ true) × (f ≡ faults.SoFarOnThreads)

-- a log: of the run that is driven to its end, or by the event file of that name
abbrev pub log_driven : LogOptions → DriveCall
log_driven o = record {
  script = o.script;
  explain = o.explain;
  cluster = size o.nodes o.slots;
  form = log_form o;
  views = log_views o;
  progress = false;
  stream = false;
}

pub record IsLogReplay (o : LogOptions) (events : List ℕ) (c : Call) : Type 0 where
  pub replayed : ReplayCall
  pub script : replayed.script ≡ o.script
  pub file : replayed.events.now ≡ events
  pub cluster : replayed.cluster ≡ size o.nodes o.slots
  pub explain : replayed.explain ≡ o.explain
  pub call : c ≡ calls.Replay replayed (log_form o) (log_views o)

abbrev pub IsLogBy : Option (List ℕ) → LogOptions → Call → Type 0
IsLogBy None o c = c ≡ calls.Drive (log_driven o)
IsLogBy (Some events) o c = IsLogReplay o events c

abbrev pub IsLogCall : LogOptions → Call → Type 0
IsLogCall o c = IsLogBy (option_map (λ s. s.now) o.events) o c

-- why something is as it is
abbrev pub why_driven : WhyOptions → Form → Call
why_driven o form = calls.Drive (record {
  script = o.script;
  explain = o.explain;
  cluster = size o.nodes o.slots;
  form = form;
  views = no_views;
  progress = false;
  stream = false;
})

pub record IsWhyReplay (o : WhyOptions) (events : List ℕ) (form : Form) (c : Call) : Type 0 where
  pub replayed : ReplayCall
  pub script : replayed.script ≡ o.script
  pub file : replayed.events.now ≡ events
  pub cluster : replayed.cluster ≡ size o.nodes o.slots
  pub explain : replayed.explain ≡ o.explain
  pub call : c ≡ calls.Replay replayed form no_views

pub record IsWhyNamed (o : WhyOptions) (name : List ℕ) (c : Call) : Type 0 where
  pub form : Form
  pub names : Names name (contents o.full) form
  pub call : c ≡ why_driven o form

pub record IsWhyNamedBy (o : WhyOptions) (events name : List ℕ) (c : Call) : Type 0 where
  pub form : Form
  pub names : Names name (contents o.full) form
  pub replay : IsWhyReplay o events form c

-- the first word behind the script is no file where it names something and no other word follows; main is asked about where nothing is named
abbrev pub IsWhyBy : Option (List ℕ) → Option (List ℕ) → WhyOptions → Call → Type 0
IsWhyBy None object o c = c ≡ why_driven o (WhyMain (contents o.full))
IsWhyBy (Some first) None o c = IsWhyNamed o first c ⊎ (NamesNone first × IsWhyReplay o first (WhyMain (contents o.full)) c)
IsWhyBy (Some first) (Some name) o c = IsWhyNamedBy o first name c

abbrev pub IsWhyCall : WhyOptions → Call → Type 0
IsWhyCall o c = IsWhyBy (option_map (λ s. s.now) o.events) (option_map (λ s. s.now) o.object) o c

-- a second word that names nothing
abbrev pub IsNoName : Option (List ℕ) → CallFault → Type 0
IsNoName None f = ⊥
IsNoName (Some name) (faults.NoName word) = (word.now ≡ name) × NamesNone name
IsNoName (Some name) _ = ⊥

abbrev pub IsWhyFault : WhyOptions → CallFault → Type 0
IsWhyFault o f = IsNoName (option_map (λ s. s.now) o.object) f

abbrev pub engine_word : Engine → List ℕ
engine_word Dask = codes "dask"
engine_word Ray = codes "ray"

pub record IsExportCall (o : ExportOptions) (c : Call) : Type 0 where
  pub engine : Engine
  pub named : o.to.now ≡ engine_word engine
  pub call : c ≡ calls.Export engine (record { script = o.script; explain = o.explain })

abbrev pub IsExportFault : ExportOptions → CallFault → Type 0
IsExportFault o (faults.NoEngine word) = (word.now ≡ o.to.now) × ((e : Engine) → o.to.now ≢ engine_word e)
IsExportFault o _ = ⊥

-- the text is a number of 64 bits, which a plus may stand before
abbrev pub IsPlace : List ℕ → Type 0
IsPlace text = IsNumeral 10 (without_leading_plus text) × (digits_value 10 (without_leading_plus text) < 2 ^ 64)

abbrev pub IsStateBy : Option (List ℕ) → StateOptions → Call → Type 0
IsStateBy None o c = c ≡ calls.Replay (state_replayed o) StateForm no_views
IsStateBy (Some text) o c = IsPlace text × (c ≡ calls.StateAt (state_replayed o) (digits_value 10 (without_leading_plus text)))

abbrev pub IsStateCall : StateOptions → Call → Type 0
IsStateCall o c = IsStateBy (option_map (λ s. s.now) o.at) o c

-- the text is a number of 64 bits, and which
abbrev pub IsCountOf : List ℕ → ℕ → Type 0
IsCountOf text n = IsPlace text × (n ≡ digits_value 10 (without_leading_plus text))

-- every kind of fault but the loss of secondary copies alone
abbrev pub usual_faults : FaultChoice
usual_faults = record { kill = true; told_kill = true; kill_node = true; lose = true; evict = false }

-- the kinds that the words name, or the usual ones
abbrev pub IsChoiceBy : Option (List ℕ) → FaultChoice → Type 0
IsChoiceBy None choice = choice ≡ usual_faults
IsChoiceBy (Some text) choice = Chooses (words_of text) no_faults choice

-- as many lists as the words say, or as a number of 64 bits can count
abbrev pub IsMostBy : Option (List ℕ) → ℕ → Type 0
IsMostBy None most = most ≡ 2 ^ 64 - 1
IsMostBy (Some text) most = IsCountOf text most

abbrev pub trial_of : FaultsOptions → FaultChoice → ℕ → FaultsCall
trial_of o choice most = record {
  script = o.script;
  events = o.events;
  cluster = size o.nodes o.slots;
  choice = choice;
  most = most;
  out = o.out;
  explain = o.explain;
  progress = o.progress;
}

-- faults at each place of a run
pub record IsFaultsCall (o : FaultsOptions) (c : Call) : Type 0 where
  pub choice : FaultChoice
  pub chosen : IsChoiceBy (option_map (λ s. s.now) o.of) choice
  pub most : ℕ
  pub counted : IsMostBy (option_map (λ s. s.now) o.most) most
  pub call : c ≡ calls.Faults (trial_of o choice most)

-- one of the words is the name of no kind
abbrev pub IsNoKind : Option (List ℕ) → List ℕ → Type 0
IsNoKind None word = ⊥
IsNoKind (Some text) word = ChoosesNone word × Contains (words_of text) word

-- the words are no number of lists
abbrev pub IsNoCount : Option (List ℕ) → List ℕ → Type 0
IsNoCount None word = ⊥
IsNoCount (Some text) word = (word ≡ text) × (IsPlace text → ⊥)

abbrev pub IsFaultsFault : FaultsOptions → CallFault → Type 0
IsFaultsFault o (faults.NoKind word) = IsNoKind (option_map (λ s. s.now) o.of) word.now
IsFaultsFault o (faults.NoCount word) = IsNoCount (option_map (λ s. s.now) o.most) word.now
IsFaultsFault o _ = ⊥

abbrev pub IsNoNumber : Option (List ℕ) → CallFault → Type 0
IsNoNumber None f = ⊥
IsNoNumber (Some text) (faults.NoNumber word) = (word.now ≡ text) × (IsPlace text → ⊥)
IsNoNumber (Some text) _ = ⊥

abbrev pub IsStateFault : StateOptions → CallFault → Type 0
IsStateFault o f = IsNoNumber (option_map (λ s. s.now) o.at) f

-- ---- all of them

abbrev pub IsCallOf : Request → Call → Type 0
IsCallOf (asked.Check o) c = c ≡ calls.Check (record { script = o.script; explain = o.explain })
IsCallOf (asked.Serial o) c = c ≡ calls.Serial (record { script = o.script; explain = o.explain })
IsCallOf (asked.Sim o) c = c ≡ calls.Replay (sim_replayed o) (sim_form o) (sim_views o)
IsCallOf (asked.Run o) c = IsRunCall o c
IsCallOf (asked.Log o) c = IsLogCall o c
IsCallOf (asked.Why o) c = IsWhyCall o c
IsCallOf (asked.Faults o) c = IsFaultsCall o c
IsCallOf (asked.Migrate o) c = c ≡ calls.Migrate (migrated o)
IsCallOf (asked.Explain what) c = c ≡ calls.Explain what
IsCallOf (asked.Export o) c = IsExportCall o c
IsCallOf (asked.State o) c = IsStateCall o c

-- why nothing is called
abbrev pub IsFaultOf : Request → CallFault → Type 0
IsFaultOf (asked.Run o) f = IsRunFault o f
IsFaultOf (asked.Why o) f = IsWhyFault o f
IsFaultOf (asked.Faults o) f = IsFaultsFault o f
IsFaultOf (asked.Export o) f = IsExportFault o f
IsFaultOf (asked.State o) f = IsStateFault o f
IsFaultOf _ f = ⊥

-- a run on threads has from 1 to 8 of them
abbrev pub HasThreads : Call → Type 0
HasThreads (calls.OnThreads t) = AreThreads t.threads
HasThreads _ = Unit {0}
