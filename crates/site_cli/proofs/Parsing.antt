-- From the kinds of clap's errors to what is wrong with the words.
use Rattle.std.proofs.Common.{◌≡◌, ◌≢◌, ◌∙◌, sym, List, ℕ, [], ◌∷◌, subst, inl, inr, refl, Option, None}
use Rattle.clap.specs.Words.{HasKind, IsAmong, Kinds, kind_of, fault_of, subcommand_of}
use Rattle.clap.specs.declared.error.Error.{Error}
use Rattle.clap.specs.declared.error.kind.ErrorKind.TheVariants as kind
use Rattle.site_cli.specs.Words.{Asked, asked, job_of, synopsis, unless_faulty}
use Rattle.site_cli.specs.declared.words.WordFault.{WordFault}
use Rattle.site_cli.specs.declared.words.WordFault.TheVariants.{BadWords, OutOfMemory}

-- an error that isn't want of memory has one of the kinds, so there is one
pub some_kind : (kinds : Kinds) (e : Error) (fault : WordFault) → HasKind kinds e → (kind_of e ≡ kind.OutOfMemory → fault ≡ OutOfMemory) → fault ≡ BadWords → kinds ≢ []
some_kind kinds e fault (inl memory) wanting bad none = let same : BadWords ≡ OutOfMemory = sym bad ∙ wanting memory in absurd (cc)
some_kind kinds e fault (inr among) wanting bad none = subst (λ (ks : Kinds). IsAmong (kind_of e) ks) none among

faulty : (kinds : Kinds) (job : Option Asked) → kinds ≢ [] → unless_faulty kinds job ≡ None
faulty [] job some = absurd (some refl)
faulty (kind ∷ kinds) job some = refl

-- words with a fault name no job
pub none_asked : (words : List (List ℕ)) → fault_of synopsis words ≢ [] → asked words ≡ None
none_asked words some = faulty (fault_of synopsis words) (job_of (subcommand_of synopsis words)) some
