use Rattle.dnsv_zones.specs.forms.Nsec.{nsec_words}
use Rattle.dnsv_zones.proofs.lemmas.chains.MoreLemmas.{no_name_more, no_data_more, no_closer_more, unsigned_cut_more, nsec_more}
use Rattle.dnsv_zones.proofs.more.more_nsec_records_prove_no_less.Goals as goal

pub returns-clause-no_name : goal.returns-clause-no_name
returns-clause-no_name c = λ apex name few many among. no_name_more (nsec_words apex few) (nsec_words apex many) (nsec_more apex few many among) apex name

pub returns-clause-no_data : goal.returns-clause-no_data
returns-clause-no_data c = λ apex name t few many among. no_data_more (nsec_words apex few) (nsec_words apex many) (nsec_more apex few many among) apex name t

pub returns-clause-no_closer : goal.returns-clause-no_closer
returns-clause-no_closer c = λ apex name labels few many among. no_closer_more (nsec_words apex few) (nsec_words apex many) (nsec_more apex few many among) apex name labels

pub returns-clause-unsigned_cut : goal.returns-clause-unsigned_cut
returns-clause-unsigned_cut c = λ apex name cut few many among. unsigned_cut_more (nsec_words apex few) (nsec_words apex many) (nsec_more apex few many among) apex name cut
