use Rattle.dnsv_zones.specs.forms.Nsec3.{nsec3_words}
use Rattle.dnsv_zones.proofs.lemmas.chains.MoreLemmas.{no_name_more, no_data_more, no_closer_more, unsigned_cut_more, nsec3_more, opt_out_more, opt_out_closer_more}
use Rattle.dnsv_zones.proofs.more.more_nsec3_records_prove_no_less.Goals as goal

pub returns-clause-no_name : goal.returns-clause-no_name
returns-clause-no_name c = λ hash apex name few many among. no_name_more (nsec3_words hash few) (nsec3_words hash many) (nsec3_more hash few many among) apex name

pub returns-clause-no_data : goal.returns-clause-no_data
returns-clause-no_data c = λ hash apex name t few many among. no_data_more (nsec3_words hash few) (nsec3_words hash many) (nsec3_more hash few many among) apex name t

pub returns-clause-no_closer : goal.returns-clause-no_closer
returns-clause-no_closer c = λ hash apex name labels few many among. no_closer_more (nsec3_words hash few) (nsec3_words hash many) (nsec3_more hash few many among) apex name labels

pub returns-clause-unsigned_cut : goal.returns-clause-unsigned_cut
returns-clause-unsigned_cut c = λ hash apex name cut few many among. unsigned_cut_more (nsec3_words hash few) (nsec3_words hash many) (nsec3_more hash few many among) apex name cut

pub returns-clause-opt_out : goal.returns-clause-opt_out
returns-clause-opt_out c = λ hash apex name labels few many among. opt_out_more hash few many apex name labels among

pub returns-clause-opted_out_next_closer : goal.returns-clause-opted_out_next_closer
returns-clause-opted_out_next_closer c = λ hash apex name labels few many among. opt_out_closer_more hash few many apex name labels among
