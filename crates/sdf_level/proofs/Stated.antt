-- The constants of the code are the limits that the definitions state.
use Rattle.std.proofs.Common.{◌≡◌, refl}
use Rattle.sdf_level.specs.declared.TheConstants.{RATE_LIMIT, BASE_ENTRY_LIMIT, FIRINGS_LIMIT, LINKS_LIMIT, TOKENS_LIMIT}
use Rattle.sdf_level.specs.Invariants.{rate_limit}
use Rattle.sdf_level.specs.Balance.{base_entry_limit}
use Rattle.sdf_level.specs.Limits.{firings_limit, links_limit, tokens_limit}

rate_stated : RATE_LIMIT ≡ rate_limit
rate_stated = refl

base_entry_stated : BASE_ENTRY_LIMIT ≡ base_entry_limit
base_entry_stated = refl

firings_stated : FIRINGS_LIMIT ≡ firings_limit
firings_stated = refl

links_stated : LINKS_LIMIT ≡ links_limit
links_stated = refl

tokens_stated : TOKENS_LIMIT ≡ tokens_limit
tokens_stated = refl
