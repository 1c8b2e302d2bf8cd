-- The one machine value of a board and of a stub. Assumes `Logic`.
use Rattle.std.proofs.Common.{[], ◌∷◌, refl}
use seplogic.Ra.Ura.{Ura}
use mir.Val.{Val, vstruct, vcons, vnil}
use base.Logic.{ent, emp}
use types.Logic.{Logic, sem}
use denote.RattleType.{RattleType}
use denote.Shadow.{makes_shadow}
use denote.Struct.Struct.{Struct}
use Rattle.std.specs.contracts.marker.PhantomData as marker

abbrev pub token : Val
token = vstruct (vcons (vstruct vnil) vnil)

module _ (X : RattleType) where
  abbrev pub Token : RattleType
  Token = Struct record { name = []; args = []; types = []; fields = marker.the_row X ∷ [] }

  pub token_made : {M : Type 1} {𝓤 : Ura M} (𝓛 : Logic 𝓤) → ent 𝓤 (emp 𝓤) (sem 𝓛 (Token.own_val (record {}, tt) (token ∷ [])))
  token_made 𝓛 = makes_shadow 𝓛 (Token.own_val (record {}, tt) (token ∷ [])) (λ vss. (tt, ((λ uss. (tt, tt)), tt))) ((vstruct vnil ∷ [], tt), (refl, ((tt, (refl, tt)), tt)))
